pub mod Lining
pub mod Outputting
