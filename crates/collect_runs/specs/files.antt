pub mod Files
pub mod Sequences
pub mod Laws
