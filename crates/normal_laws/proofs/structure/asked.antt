pub mod Lists
pub mod CallVariables
pub mod Calls
pub mod Waits
pub mod Walk
