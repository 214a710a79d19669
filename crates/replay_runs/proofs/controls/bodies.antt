pub mod Walked
pub mod Spread
pub mod Controlled
pub mod Unjoined
pub mod Well
pub mod Whole
