pub mod Agreement
pub mod Rewriting
pub mod Laws
