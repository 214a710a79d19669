pub mod Linked
pub mod Places
