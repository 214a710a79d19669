pub mod Lists
pub mod Marks
pub mod Named
pub mod Steps
pub mod Texts
