pub mod Plain
pub mod Judged
pub mod Known
pub mod Walked
pub mod Ranges
