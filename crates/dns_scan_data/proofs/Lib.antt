mod InFull
mod Names
mod Strings
mod HexDigits
mod HexLanes
mod ColonHex
mod AppendedHex
pub mod Appending
