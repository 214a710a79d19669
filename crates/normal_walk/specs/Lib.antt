pub mod inner
pub mod Begun
pub mod waits
pub mod variables
