pub mod Rows
pub mod Floors
pub mod Laws
