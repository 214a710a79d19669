pub mod Ending
pub mod Passing
pub mod Proposing
pub mod Choosing
