pub mod Alike
pub mod Following
pub mod Rested
pub mod Showing
pub mod Carried
