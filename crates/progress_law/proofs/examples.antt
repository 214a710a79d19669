pub mod Trees
pub mod Judging
mod Waits
pub mod Meetings
pub mod Aborts
mod Members
mod Sequences
