pub mod Table
pub mod Views
pub mod Conditions
pub mod Judging
pub mod Outputs
pub mod TaskLaws
