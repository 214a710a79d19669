pub mod Walks
pub mod Capping
pub mod Spelling
pub mod Marking
pub mod Filing
pub mod Headers
pub mod Narrowing
pub mod Joining
