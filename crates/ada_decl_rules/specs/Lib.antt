pub mod objects
pub mod duplicates
