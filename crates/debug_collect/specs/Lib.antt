pub mod CollectOutcomes
pub mod Recorded
pub mod inner
pub mod loads
pub mod replays
