pub mod Alternatives
pub mod HandlerParts
pub mod Inner
pub mod Loops
pub mod Onward
mod ReadingExamples
pub mod Selected
pub mod Whens
mod WordExamples
