pub mod Counts
pub mod Stored
pub mod Told
pub mod Written
pub mod pages
pub mod seeds
