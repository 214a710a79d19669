pub mod Kept
pub mod Frames
pub mod Steps
pub mod Meetings
pub mod Carried
pub mod Everywhere
