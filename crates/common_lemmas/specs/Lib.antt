pub mod Following
pub mod division
