pub mod Fitting
pub mod Backs
pub mod WellMade
pub mod Worlds
pub mod Counts
pub mod Copies
pub mod Fields
