pub mod Local
pub mod InOrder
