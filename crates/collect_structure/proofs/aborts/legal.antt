pub mod Placed
pub mod Listed
pub mod Values
pub mod Checkable
pub mod Legal
pub mod Joined
pub mod Types
