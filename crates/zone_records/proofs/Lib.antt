pub mod Decided
pub mod Each
pub mod OctetFronts
pub mod RowFronts
pub mod RecordFronts
pub mod Indexed
mod SoaRows
mod SameSoas
pub mod ReadData
pub mod StoredRecords
pub mod SpellableData
pub mod DecidedData
pub mod WrittenData
pub mod WrittenRecords
pub mod RecordOctets
pub mod CheckedData
pub use Rattle.dns_message.proofs.ComposedRows
pub use Rattle.dns_message.proofs.Spellable
pub use Rattle.dns_message.proofs.Numbers
