pub mod Tables
pub mod Meeting
pub mod Parting
pub mod Shutting
pub mod Reading
