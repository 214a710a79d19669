pub mod NextLines
pub mod Tables
