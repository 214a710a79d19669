pub mod DeclSteps
pub mod Steps
