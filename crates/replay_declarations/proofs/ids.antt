pub mod Told
pub mod Composed
