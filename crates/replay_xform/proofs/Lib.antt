pub mod Spoken
pub mod Finished
pub mod Counted
pub mod Marks
pub mod Made
