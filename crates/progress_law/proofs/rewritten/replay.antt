pub mod Trees
mod Named
mod Rendezvous
mod Calls
mod Waits
mod Raising
mod Rows
mod Runs
