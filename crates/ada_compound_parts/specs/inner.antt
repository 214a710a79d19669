pub mod ReadingHeads
pub mod ReadingParts
