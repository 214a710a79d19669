pub mod StackLemmas
pub mod MovesLemmas
pub mod HandlerLemmas
pub mod CallLemmas
