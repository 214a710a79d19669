-- Cite `Telling` for the laws, where any predicate may tell the proper states; `Swapping` has two events in either order, and `Verdicts` what it is that all goes well.
pub mod Reading
pub mod Writing
pub mod Swapping
pub mod Leading
pub mod Traces
pub mod Showing
pub mod Verdicts
pub mod Telling
pub mod Examples
