pub mod ControlTexts
pub mod Columns
pub mod Tables
pub mod Turns
pub mod ControlBodies
