pub mod floors
pub mod callees
pub mod calls
pub mod waits
pub mod tasks
pub mod runs
pub mod forms
