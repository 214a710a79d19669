pub mod Each
pub mod Laws
pub mod Blocks
pub mod variables
