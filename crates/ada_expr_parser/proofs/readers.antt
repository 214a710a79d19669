-- what follows from an answer, and small facts on lists
pub mod Basics
-- the laws of the words that readers are put together with
pub mod Binding
pub mod Choosing
pub mod Fitting
pub mod Deepening
pub mod Looking
pub mod Chaining
pub mod Listing
pub mod Turning
pub mod Exactly
