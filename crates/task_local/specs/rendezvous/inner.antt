pub mod Branches
pub mod Conforming
