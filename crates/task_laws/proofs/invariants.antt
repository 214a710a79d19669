pub mod Variables
pub mod Frames
pub mod Steady
pub mod Meetings
pub mod Offering
pub mod Keeping
pub mod Beginning
pub mod Instance
