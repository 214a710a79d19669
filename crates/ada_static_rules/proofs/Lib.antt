pub mod RankingLaws
pub mod SoonerLaws
pub mod Meeting
pub mod Listing
pub mod FirstRefusal
pub mod Outcomes
pub mod TypeExamples
