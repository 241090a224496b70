-- An OPT record that is built, and the message's header with it (RFC 6891 6.1).
use Rattle.std.specs.Prelude.{◌≡◌, ℕ, List, [], Option, None}
use Rattle.dns_octets.specs.declared.error.AppendError.{AppendError}
use Rattle.dns_name.specs.Page.Parts.{End, Octets}
use Rattle.dns_header.specs.OptFields.{OptFields, opt_fields}
use Rattle.dns_header.specs.Written.{Written}

-- what a builder of an OPT record holds
pub record OptBuilt : Type 0 where
  -- the first four octets of the message's header
  pub header : List ℕ
  -- the fixed fields of the record
  pub fields : OptFields
  -- the octets of the options
  pub options : List ℕ
  -- the error of the first call that failed
  pub refused : Option AppendError

-- a record of zeros without options
abbrev pub empty_opt : List ℕ → OptBuilt
empty_opt header = record { header = header; fields = opt_fields 0 0; options = []; refused = None }

-- the record with these fields and options: its owner is the root, and its type OPT (RFC 6891 6.1.2)
pub record IsOpt (fields : OptFields) (options : List ℕ) (opt : Written) : Type 0 where
  pub owner : opt.owner ≡ []
  pub rtype : opt.rtype ≡ 41
  pub class : opt.class ≡ fields.payload_size
  pub ttl : opt_fields fields.payload_size opt.ttl ≡ fields
  pub rdata : opt.rdata ≡ Octets options End
