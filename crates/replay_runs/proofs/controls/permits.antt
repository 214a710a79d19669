pub mod Tests
pub mod Branches
