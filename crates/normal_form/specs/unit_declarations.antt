pub mod inner
pub mod Copies
pub mod Groups
pub mod Runners
