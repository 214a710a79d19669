pub mod Arrays
pub mod Planning
pub mod Objecting
