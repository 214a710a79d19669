pub mod Named
pub mod Made
pub mod Header
pub mod Recorded
pub mod Declared
