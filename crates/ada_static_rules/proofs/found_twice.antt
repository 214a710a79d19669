pub mod FirstOfTwo
pub mod Declared
pub mod Spans
