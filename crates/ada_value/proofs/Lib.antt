pub mod Lookups
pub mod StaticLaws
