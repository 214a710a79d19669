pub mod TaskBodies
