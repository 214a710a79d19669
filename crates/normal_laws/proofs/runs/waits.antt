pub mod Indexes
pub mod Alternatives
pub mod Choices
pub mod Offering
pub mod Waiting
pub mod Aborting
