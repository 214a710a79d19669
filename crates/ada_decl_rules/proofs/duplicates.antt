pub mod Repeating
pub mod Noting
pub mod Behind
