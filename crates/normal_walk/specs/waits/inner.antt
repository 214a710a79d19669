pub mod Moved
pub mod Closing
