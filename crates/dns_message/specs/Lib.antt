pub mod Record
pub mod Held
pub mod Answer
pub mod Printed
pub use Rattle.dns_builder.specs.Frame
pub use Rattle.dns_rdata.specs.Alike
pub use Rattle.dns_header.specs.Record as HeaderRecord
pub use Rattle.dns_header.specs.Head
pub use Rattle.dns_header.specs.Written
pub use Rattle.dns_builder.specs.PushError
