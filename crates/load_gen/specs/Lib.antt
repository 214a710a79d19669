pub mod LoadTree
pub mod LoadNumbers
pub mod Promised
