pub mod Needs
pub mod Recounts
pub mod Deciding
