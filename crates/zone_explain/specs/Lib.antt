pub mod AllFaults
pub mod EntryRow
pub mod Explained
pub mod Walk
