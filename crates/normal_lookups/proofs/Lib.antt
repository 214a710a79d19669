pub mod Finding
pub mod Forming
pub mod Statics
