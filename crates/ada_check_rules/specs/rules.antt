pub mod Rules
pub mod Sooner
pub mod RefusedFirst
pub mod Amounts
pub mod inner
