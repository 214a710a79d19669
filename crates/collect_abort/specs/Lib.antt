pub mod Looked
pub mod Waited
pub mod Rules
pub mod Branches
pub mod Steps
