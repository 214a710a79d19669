pub mod Variants
pub mod Continuing
pub mod KnownOffers
pub mod GoingLaws
pub mod inner
