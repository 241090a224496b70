pub mod Spelling
pub mod Taken
pub mod SymbolFronts
pub mod SymbolRuns
pub mod SymbolTexts
pub mod LaneMarks
pub mod OctetRuns
pub mod LabelTexts
pub mod Seeing
mod Tried
pub mod PlainLabels
