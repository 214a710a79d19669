pub mod Scoped
pub mod Units
