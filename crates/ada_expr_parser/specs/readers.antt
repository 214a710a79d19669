pub mod Readers
pub mod Grammars
pub mod Lawful
pub mod Exactness
