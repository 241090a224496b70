pub mod Appended
pub mod AppendedHex
pub mod ColonHex
