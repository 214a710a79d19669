pub mod TasksWithin
