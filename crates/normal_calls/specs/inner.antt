pub mod Modes
pub mod Passing
pub mod CallForms
