pub mod Phrases
pub mod Reading
pub mod Spelling
pub mod Views
