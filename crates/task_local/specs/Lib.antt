pub mod OfferView
pub mod inner
pub mod rendezvous
pub mod room
