pub mod Flat
pub mod Wire
pub mod Heads
pub mod Walking
pub mod Readable
pub mod Case
pub mod Items
pub mod Parts
pub mod Drafts
pub mod Texts
mod Readings
pub mod CharTexts
mod OctetTexts
pub mod UnescapedTexts
mod LastDots
pub mod Builds
pub mod LastLabels
pub mod Pushes
pub mod Skipping
pub mod Cuts
pub mod Orders
pub mod LowNames
pub mod FlatEnds
pub mod FlatForms
pub mod NameFronts
mod SameOctets
