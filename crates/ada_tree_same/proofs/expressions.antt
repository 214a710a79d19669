pub mod Joined
pub mod SameLemmas
