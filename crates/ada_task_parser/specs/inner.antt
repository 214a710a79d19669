pub mod MemberViews
pub mod ReadingTasks
pub mod TaskViews
