pub mod ByEvents
pub mod Laws
