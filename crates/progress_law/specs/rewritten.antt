pub mod normal
pub mod replay
