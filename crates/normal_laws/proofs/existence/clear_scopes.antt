pub mod Apart
pub mod Ready
