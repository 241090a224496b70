-- The fixed fields of an OPT record are written in place (RFC 6891 6.1.2).
use Rattle.std.specs.Prelude.{◌≡◌, ◌-◌, ℕ, List, ◌++◌, length}
use Rattle.std.specs.Int.{to_be_bytes, w16, w32}
use Rattle.dns_name.specs.Remembered.{patched}
use Rattle.dns_header.specs.OptFields.{opt_fields}
use Rattle.dns_builder.specs.OptBuilt.{OptBuilt}

-- the class, the TTL and the length of the data are those of the record
pub record WritesFields (start : ℕ) (built : OptBuilt) (old new : List ℕ) : Type 0 where
  pub ttl : ℕ
  pub says : opt_fields built.fields.payload_size ttl ≡ built.fields
  pub written : new ≡ patched old (start - 8) (to_be_bytes w16 built.fields.payload_size ++ (to_be_bytes w32 ttl ++ to_be_bytes w16 (length built.options)))
