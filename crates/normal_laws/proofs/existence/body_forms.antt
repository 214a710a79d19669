pub mod Named
pub mod Typing
pub mod Joined
pub mod Ranges
pub mod Rows
pub mod Worth
pub mod Literals
pub mod Fields
