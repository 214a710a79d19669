pub mod Originals
pub mod Owners
