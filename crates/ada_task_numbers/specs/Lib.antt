pub mod inner
pub mod task_objects
pub mod task_counts
