pub mod SoonerLaws
pub mod Meeting
pub mod Listing
pub mod Marking
pub mod Capping
pub mod CountLaws
pub mod FromBehind
