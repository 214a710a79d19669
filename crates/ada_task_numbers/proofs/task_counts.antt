pub mod TaskCounting
pub mod Sharing
pub mod Copying
