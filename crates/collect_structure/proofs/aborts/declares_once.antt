pub mod Few
pub mod Loose
pub mod Statements
pub mod Ids
pub mod Units
pub mod Whole
pub mod Legal
pub mod Examples
