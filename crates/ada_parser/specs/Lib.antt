pub mod Declarations
pub mod Units
pub mod Reads
pub mod Laws
pub mod Exactly
pub mod Refusals
pub mod inner
pub mod expression_laws
