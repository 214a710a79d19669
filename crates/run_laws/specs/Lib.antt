pub mod replaying
pub mod imitation
pub mod telling
pub mod collecting
pub mod aborts
