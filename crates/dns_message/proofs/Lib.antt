pub mod Plain
pub mod Written
pub mod WrittenRecords
pub mod Opened
pub mod ReadRecords
pub mod Numbers
pub mod SpelledQuestions
pub mod AnswerHeaders
pub mod HeldRecords
pub mod AsWritten
mod Tried
pub mod Spellable
pub mod DecidedFields
pub mod DecidedRecords
pub mod WrittenItems
pub use Rattle.dns_rdata.proofs.Writing
pub use Rattle.dns_rdata.proofs.ComposedRows
