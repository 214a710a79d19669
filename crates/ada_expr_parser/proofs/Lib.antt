pub mod Chains
pub mod Lists
pub mod NameBytes
pub mod Naming
pub mod Places
pub mod Steps
