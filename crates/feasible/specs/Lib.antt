pub mod Kept
pub mod Keeping
pub mod Failing
pub mod Rested
pub mod Shown
pub mod JudgeLaws
pub mod inner
