pub mod Texts
pub mod Named
pub mod Made
pub mod Recorded
pub mod Declared
