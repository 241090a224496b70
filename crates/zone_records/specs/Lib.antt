pub mod Record
pub mod Zone
pub mod Stored
pub mod Records
pub mod Typed
pub use Rattle.dns_rdata.specs.DataOctets
pub use Rattle.dns_message.specs.Record as MessageRecord
pub use Rattle.dns_message.specs.Head
pub use Rattle.dns_message.specs.Held
pub use Rattle.dns_message.specs.Printed
