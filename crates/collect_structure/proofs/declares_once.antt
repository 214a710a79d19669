pub mod Statements
pub mod Ids
pub mod Units
pub mod Splits
pub mod Text
pub mod Whole
pub mod Legal
pub mod Examples
