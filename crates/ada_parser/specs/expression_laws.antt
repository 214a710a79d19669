pub mod Stopping
pub mod Laws
