pub mod Counting
pub mod Rows
pub mod Floors
pub mod Carried
