pub mod OwnTasks
pub mod TextOutcomes
pub mod OneReplay
pub mod Keeping
