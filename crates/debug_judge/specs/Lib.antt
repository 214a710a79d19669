pub mod JudgeOutcomes
pub mod JudgedLines
pub mod order_law
