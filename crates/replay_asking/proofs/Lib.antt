pub mod Made
pub mod Accepts
