pub mod Counted
pub mod Members
pub mod Writes
