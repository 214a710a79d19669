pub mod Writing
pub mod Lists
pub mod TypeDecls
pub mod TaskDecls
pub mod Following
