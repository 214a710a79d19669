pub mod Telling
pub mod Laws
pub mod examples
pub mod offers
pub mod rewritten
