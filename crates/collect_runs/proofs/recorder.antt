pub mod Flags
pub mod Finding
pub mod Writing
pub mod Keeping
pub mod Hearing
pub mod Ending
pub mod Starting
pub mod Taking
