pub mod inner
pub mod pieces
pub mod names
pub mod meanings
