pub mod Places
pub mod Writings
pub mod Displays
pub mod TokenSymbols
pub mod RowSteps
pub mod DocumentSplits
pub mod AlikePlaces
pub mod InnerBlocks
pub mod BareBlocks
pub mod LineTexts
pub mod DocumentTexts
pub mod OneRow
pub mod UncertainTexts
pub mod UnknownTokens
mod Tried
pub use Rattle.dns_scan.proofs.HexWords
pub use Rattle.dns_scan.proofs.Encodings
