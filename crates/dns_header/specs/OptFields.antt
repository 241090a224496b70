-- The fixed fields of an OPT record (RFC 6891 6.1.2 and 6.1.3).
use Rattle.std.specs.Prelude.{◌+◌, ◌*◌, ◌/◌, ◌%◌, ◌==◌, ◌^◌, ℕ, Bool, List, [], ◌∷◌, ◌++◌}
use Rattle.std.specs.Int.{to_be_bytes, w16, w32}
use Rattle.dns_header.specs.Opt.{EdnsOption}

-- the UDP payload size is the record's class; the others are in its TTL: the high eight bits of the response code, the
-- version, DO, and 15 reserved bits
pub record OptFields : Type 0 where
  pub payload_size : ℕ
  pub high_rcode : ℕ
  pub version : ℕ
  pub dnssec_ok : Bool
  pub reserved : ℕ

-- the fields in a class and a TTL
abbrev pub opt_fields : ℕ → ℕ → OptFields
opt_fields class ttl = record {
  payload_size = class;
  high_rcode = ttl / 2 ^ 24;
  version = ttl / 2 ^ 16 % 2 ^ 8;
  dnssec_ok = ttl / 2 ^ 15 % 2 == 1;
  reserved = ttl % 2 ^ 15;
}

-- the response code of a message: its high eight bits from the OPT record, its low four from the header
abbrev pub extended_rcode : OptFields → ℕ → ℕ
extended_rcode fields low = 16 * fields.high_rcode + low

-- an OPT record
pub record OptParts : Type 0 where
  pub fields : OptFields
  pub options : List EdnsOption
