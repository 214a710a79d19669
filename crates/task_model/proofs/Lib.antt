pub mod Lawful
pub mod Following
