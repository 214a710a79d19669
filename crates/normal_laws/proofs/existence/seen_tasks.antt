pub mod Finding
pub mod Scopes
pub mod Parts
pub mod Bodies
pub mod Units
pub mod Tasks
