pub mod Counted
pub mod Finding
pub mod Images
pub mod Told
pub mod Made
pub mod Named
pub mod Waiting
