pub mod RenamedNumbers
pub mod RenamedScopes
pub mod RenamedTasks
pub mod RenamedValues
