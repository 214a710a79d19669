pub mod Shown
pub mod Below
