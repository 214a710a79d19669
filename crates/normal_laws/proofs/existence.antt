pub mod walked_statements
pub mod seen_tasks
pub mod statement_forms
pub mod body_forms
pub mod Joined
pub mod Instance
pub mod Coloured
