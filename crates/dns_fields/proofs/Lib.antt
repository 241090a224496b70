pub mod Writing
pub mod Lengths
pub mod NameOctets
pub mod Prefixes
pub mod Leaves
pub mod FieldKinds
pub mod ReadParts
pub mod ReadFields
pub mod ReadStrings
pub mod Shows
pub mod ShownTokens
pub mod ScanParts
pub mod ScanLeaves
pub mod DottedNumbers
pub mod StringsOf
pub mod TextStrings
pub mod ReadEach
pub mod CutFields
mod LongRows
pub mod ComposedRows
pub mod PrintedTexts
pub mod PrintedRows
pub mod PrintedTokens
pub mod ScannedOnce
pub mod Unmarked
mod Tried
