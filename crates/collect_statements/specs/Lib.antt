pub mod Looked
pub mod Waited
pub mod Rules
