pub mod Remembered
pub mod SameNames
pub mod Standings
pub mod Tails
pub mod ReadParts
pub mod Sameness
pub mod Costs
pub mod Texts
pub mod NameTexts
pub mod Sizes
pub mod Joins
pub mod FullNames
pub mod FreeCosts
pub mod OwnSpelling
pub mod DistinctSums
pub mod Groups
mod Tried
