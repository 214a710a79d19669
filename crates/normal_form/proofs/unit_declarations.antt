pub mod Calling
pub mod FirstTasks
pub mod Firsts
pub mod Listing
pub mod NamesBeside
