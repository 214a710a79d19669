pub mod Kept
pub mod Rows
pub mod Floors
pub mod Carried
pub mod Instance
