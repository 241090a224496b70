pub mod AppendedBase64
pub mod TypeWords
pub mod NumberedWords
pub mod Calendar
pub mod Moments
mod DigitLanes
mod TriedLocation
pub mod HashWords
mod LocationParts
pub mod LocationNumerals
mod LocationScans
pub mod LocationRead
pub mod LocationPrinted
pub mod HardwareText
pub mod TypeBits
pub mod TypeWindows
pub mod ShownTypes
pub mod ScannedTypes
pub mod PrintedTypes
pub mod OneBitmap
pub mod TypesLeft
pub mod TypesSought
pub mod TypesAscend
pub mod FrequentTypes
pub mod ParsedNumbers
