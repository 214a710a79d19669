pub mod Olds
pub mod TypeNames
pub mod Apart
pub mod Owned
pub mod Decls
pub mod Whole
