pub mod Adding
pub mod Counting
pub mod Choosing
pub mod Inputting
pub mod Tabling
pub mod Reading
