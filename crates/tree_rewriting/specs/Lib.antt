pub mod making
pub mod walking
