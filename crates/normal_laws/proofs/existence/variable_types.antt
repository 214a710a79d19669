pub mod Numbers
pub mod SubtypeForms
pub mod Subtypes
pub mod Fields
