pub mod KeepingLemmas
pub mod FormalsLemmas
pub mod UnitsLemmas
pub mod LinksLemmas
