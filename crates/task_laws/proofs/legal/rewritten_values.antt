pub mod Saying
pub mod Named
pub mod Evaluating
pub mod Objects
pub mod Staying
pub mod FirstDeclarations
