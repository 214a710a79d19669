pub mod Counting
pub mod Fronts
