pub mod ViewText
pub mod JudgeText
pub mod Seen
pub mod inner
