pub mod Carried
pub mod Headers
pub mod Programs
pub mod Example
