-- Cite `Runs` for the laws over runs, `Moves` over the machine without queues, and `Telling` and `Admitting` for one event.
pub mod Parties
pub mod Seats
pub mod Telling
pub mod Admitting
pub mod Moves
pub mod Runs
