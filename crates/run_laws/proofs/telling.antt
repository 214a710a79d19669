-- Cite `Knowing` for programs whose proper states are told by any predicate.
pub mod Listing
pub mod Knowing
pub mod Instances
pub mod Refusing
