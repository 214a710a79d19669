pub mod Callers
pub mod Lists
pub mod Places
