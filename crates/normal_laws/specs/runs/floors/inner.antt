pub mod Actuals
pub mod Met
