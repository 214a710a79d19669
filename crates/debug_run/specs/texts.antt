pub mod OutputText
pub mod RunText
pub mod CheckText
