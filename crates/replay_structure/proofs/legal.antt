pub mod Keeping
pub mod Kept
pub mod Subtypes
pub mod Declared
pub mod Prepared
pub mod Legal
pub mod Examples
