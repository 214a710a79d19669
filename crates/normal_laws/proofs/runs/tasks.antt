pub mod Catching
pub mod Callers
