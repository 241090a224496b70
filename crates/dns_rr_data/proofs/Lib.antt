pub mod Builds
pub mod Appended
pub mod Joins
pub use Rattle.dns_fields.proofs.FieldKinds
pub use Rattle.dns_fields.proofs.ReadFields
