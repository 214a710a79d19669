pub mod sizes
pub mod normal
pub mod normal_read_back
pub mod replay_read_back
pub mod collect_read_back
