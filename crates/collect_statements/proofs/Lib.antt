pub mod Copied
pub mod Handled
pub mod Images
pub mod Turning
