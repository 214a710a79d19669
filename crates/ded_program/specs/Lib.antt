pub mod Whole
pub mod real
