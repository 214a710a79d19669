pub mod Turning
pub mod Sequential
pub mod inner
pub mod start
