pub mod Wanting
pub mod Giving
