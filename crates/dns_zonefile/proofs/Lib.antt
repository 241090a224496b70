pub mod OneStatement
pub mod AppendedData
pub mod OneEntry
pub mod Directions
pub mod Records
pub mod PassedOver
pub mod RowFronts
pub mod OneList
mod Tried
mod Entering
pub mod Going
pub mod GivenEntries
pub mod Lengthened
pub mod Rests
mod Forms
mod ComposedRows
pub mod RecordFronts
mod LastOwners
