pub mod Laws
pub mod fits
pub mod placed
pub mod known
pub mod names
