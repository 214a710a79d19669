pub mod Around
pub mod Leaving
