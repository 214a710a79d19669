pub mod likeness
pub mod fits
