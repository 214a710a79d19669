pub mod Asking
pub mod Claiming
pub mod Waiting
pub mod Aborted
pub mod WalkedExpr
