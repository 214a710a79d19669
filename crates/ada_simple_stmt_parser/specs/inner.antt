pub mod ReadingSimple
pub mod SimpleViews
