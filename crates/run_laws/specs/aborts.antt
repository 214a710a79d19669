pub mod Notes
pub mod Copies
pub mod Settings
pub mod inner
pub mod Rewritings
pub mod Laws
pub mod Told
pub mod Example
