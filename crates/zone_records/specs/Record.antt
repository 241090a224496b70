-- A resource record (RFC 1035 3.2.1), as `dns_message` defines it.
pub use Rattle.dns_message.specs.Record.{Record}
