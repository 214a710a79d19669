pub mod Frames
pub mod Steps
pub mod Opened
pub mod Meetings
pub mod Standing
pub mod Keeping
pub mod Runs
