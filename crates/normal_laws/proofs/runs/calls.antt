pub mod Formals
pub mod Calling
pub mod Returns
pub mod Handing
pub mod Knowing
pub mod CallForms
pub mod Standing
pub mod Selecting
