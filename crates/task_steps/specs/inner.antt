pub mod Storing
pub mod Branches
