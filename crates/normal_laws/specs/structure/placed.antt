pub mod Placeable
pub mod Example
pub mod Laws
