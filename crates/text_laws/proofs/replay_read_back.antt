pub mod Whole
pub mod Instance
