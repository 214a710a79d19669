pub mod Around
pub mod Checkable
pub mod Example
pub mod Laws
