pub mod Room
pub mod Standing
pub mod inner
pub mod calls
