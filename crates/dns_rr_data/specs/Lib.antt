pub mod Built
pub use Rattle.dns_fields.specs.Fields
pub use Rattle.dns_fields.specs.Reading
