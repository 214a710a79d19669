pub mod WordLists
pub mod Verdicts
pub mod NextEvents
pub mod NextLists
