-- Tokens are fields of a further type in one way, as far as it counts: they leave the same tokens, have the same octets, and have too
-- many or not.
pub use Rattle.dns_fields_more.proofs.OneScan.{not_long, one_left, one_octets}
