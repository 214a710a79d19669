pub mod parts
pub mod statements
