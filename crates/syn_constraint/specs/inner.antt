pub mod Reaching
pub mod Values
pub mod Lasts
pub mod Places
pub mod Openings
pub mod Tallies
pub mod Reading
