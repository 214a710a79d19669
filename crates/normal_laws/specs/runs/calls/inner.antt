pub mod Calls
pub mod Returns
