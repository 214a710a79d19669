pub mod Meeting
pub mod Both
pub mod Around
pub mod NamedParts
pub mod NamedStmts
pub mod NamedDecls
