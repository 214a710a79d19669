pub mod Numerals
pub mod Capped
pub mod Lines
pub mod LineFiles
