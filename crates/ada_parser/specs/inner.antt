pub mod ReadingDeclarativeParts
pub mod ReadingRows
pub mod ReadingUnits
pub mod UnitViews
