pub mod Kept
pub mod Around
pub mod Counting
pub mod Branches
pub mod Ending
pub mod Places
