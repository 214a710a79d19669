pub mod Trees
mod Calls
mod Waits
mod Members
mod Choices
mod Aborts
mod Units
