pub mod Settings
pub mod Copies
pub mod Laws
