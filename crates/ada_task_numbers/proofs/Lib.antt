pub mod TasksNumbered
