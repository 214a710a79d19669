pub mod ArmLemmas
pub mod MoveLemmas
pub mod StandLemmas
