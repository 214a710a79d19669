pub mod Finding
pub mod Named
pub mod Told
pub mod Made
