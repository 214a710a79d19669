pub mod Kept
pub mod Places
pub mod Telling
pub mod Waits
pub mod Walk
pub mod Recorder
