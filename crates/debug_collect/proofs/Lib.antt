pub mod Cutting
pub mod Sequences
pub mod Legality
pub mod Keeping
pub mod OneCollecting
pub mod Files
pub mod Carrying
