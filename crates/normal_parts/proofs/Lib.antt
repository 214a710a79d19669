pub mod Placed
pub mod Turning
pub mod Putting
pub mod Entries
pub mod Told
