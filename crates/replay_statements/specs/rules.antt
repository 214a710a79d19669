pub mod Meant
pub mod Replayed
