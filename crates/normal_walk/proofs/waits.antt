pub mod Guarding
pub mod Placed
