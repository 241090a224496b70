pub mod LastRecord
mod LastOwner
mod Keeping
pub mod ReadRecords
pub mod ZoneForms
mod ReadZoneData
pub mod ScannedRows
pub mod KeptContexts
pub mod Beginnings
pub mod KeptRules
pub mod OneFault
pub mod ReaderSteps
pub mod HeadWords
pub mod JoinedDocuments
pub mod UnknownForms
pub mod UnknownRows
pub mod OtherRows
pub mod PrintedOnce
pub mod PrintedRecords
pub mod PrintedZones
pub mod RecordClasses
pub mod Judged
pub mod ShortData
pub mod Tried
mod Documents
mod Lines
mod AppendedLines
pub use Rattle.zone_canonical.proofs.Alike
