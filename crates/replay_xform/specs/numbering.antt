pub mod Replayed
pub mod inner
