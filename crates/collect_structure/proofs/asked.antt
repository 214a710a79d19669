pub mod Kept
pub mod Telling
pub mod Walk
pub mod Recorder
