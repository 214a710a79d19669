pub mod ReadingStatements
pub mod StmtViews
pub mod Turns
