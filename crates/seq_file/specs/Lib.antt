pub mod Lines
pub mod Known
pub mod Files
pub mod Lists
pub mod Short
pub mod Stepping
pub mod inner
pub mod text_lines
