pub mod Runs
pub mod WordLemmas
pub mod NumberLemmas
pub mod PlaceLemmas
pub mod Longest
pub mod Unique
pub mod Steps
pub mod Slices
