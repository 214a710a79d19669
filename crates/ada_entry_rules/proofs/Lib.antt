pub mod Calling
pub mod Accepting
pub mod Passing
pub mod BesideFormals
pub mod EntryDecls
pub mod WrittenTargets
