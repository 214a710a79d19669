pub mod Callees
pub mod Got
pub mod Steps
