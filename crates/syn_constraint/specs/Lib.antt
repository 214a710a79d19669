pub mod Matching
pub mod Breaking
pub mod Known
pub mod Lines
pub mod Files
pub mod inner
