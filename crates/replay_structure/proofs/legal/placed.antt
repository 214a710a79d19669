pub mod Families
pub mod IndexKinds
pub mod Tight
pub mod Calls
pub mod Ready
pub mod Carried
