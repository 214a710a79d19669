pub mod Actuals
pub mod Calls
pub mod Accepts
