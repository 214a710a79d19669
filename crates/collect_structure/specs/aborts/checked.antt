pub mod Around
pub mod Checkable
