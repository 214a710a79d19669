pub mod Reaching
pub mod Parting
