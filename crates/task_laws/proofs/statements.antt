pub mod Frames
pub mod Steps
pub mod Meetings
pub mod Legal
pub mod Carried
pub mod Blocks
