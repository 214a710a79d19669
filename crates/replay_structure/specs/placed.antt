pub mod Fitting
pub mod Placeable
pub mod Laws
