pub mod RoomBehind
pub mod WrittenEnds
pub mod DottedNames
pub mod PlainOctets
pub mod Lines
pub mod MarkedLines
pub mod TokenRuns
pub mod Steps
pub mod Rows
pub mod RowFronts
pub mod PlainTokens
pub mod OneNameInText
pub mod ChainedNames
pub mod SpelledUnder
pub mod PlainTexts
pub mod SpelledRuns
pub mod Words
pub mod Gaps
pub mod Refused
pub mod OneLabel
pub mod RelativeNames
pub mod HandedOn
pub mod TakenTokens
pub mod OneHead
pub mod Heads
mod FrequentWords
mod NumberedTypes
