-- The entry that a row of a zone file makes (RFC 1035 5.1, RFC 2308 4).
use Rattle.std.specs.Prelude.{◌≡◌, ℕ, List, Option, Some, None, unwrap_or}
use Rattle.std.specs.Option.{option_or}
use Rattle.dns_text.specs.Rows.{TokenRow}
use Rattle.dns_rdata.specs.Data.{Data}
use Rattle.dns_header.specs.Record.{RecordOf}
use Rattle.dns_entry_scanner.specs.NameInText.{SpellsUnder}
use Rattle.dns_zonefile.specs.Statement.{Stated, Statement, Says}
use Rattle.dns_zonefile.specs.Statement.Statement.{SetOrigin, SetTtl, NameFile, StateRecord}

-- What the rows so far have set: the origin, the last owner, the value of `$TTL`, the last stated TTL, and the class.
pub record Context : Type 0 where
  pub origin : Option (List (List ℕ))
  pub owner : Option (List (List ℕ))
  pub default_ttl : Option ℕ
  pub last_ttl : ℕ
  pub class : Option ℕ

-- the context at the start of a file: no owner, and a TTL of one hour
abbrev pub at_start : Option (List (List ℕ)) → Option ℕ → Context
at_start origin class = record { origin = origin; owner = None; default_ttl = None; last_ttl = 3600; class = class }

pub data Entry : Type 0 where
  Resource : RecordOf (List (List ℕ)) Data → Entry
  -- the path of another file, and the origin for it, if one is stated
  Include : List ℕ → Option (List (List ℕ)) → Entry
  -- `$ORIGIN` or `$TTL`, which change only the context
  Directive : Entry

-- The entry of a statement in a context, and the context after it. A stated class is the known one. A record without a
-- TTL has that of `$TTL`, and else the last one that was stated.
pub data Enters (context : Context) : Statement → Entry → Context → Type 0 where
  origin : {name : List (List ℕ)} → Enters context (SetOrigin name) Directive (record context { origin = Some name })
  ttl : {seconds : ℕ} → Enters context (SetTtl seconds) Directive (record context { default_ttl = Some seconds })
  file : {path : List ℕ} {origin : Option (List (List ℕ))} → Enters context (NameFile path origin) (Include path origin) context
  resource : {stated : Stated} {owner : List (List ℕ)} {class : ℕ} → option_or stated.owner context.owner ≡ Some owner
      → option_or stated.class context.class ≡ Some class → option_or context.class stated.class ≡ Some class
      → Enters context (StateRecord stated)
      (Resource (record {
        owner = owner;
        class = class;
        ttl = unwrap_or (option_or stated.ttl context.default_ttl) context.last_ttl;
        rdata = stated.rdata;
      }))
      (record context { owner = Some owner; last_ttl = unwrap_or stated.ttl context.last_ttl; class = Some class })

-- a row with tokens is this entry, and the context is this one after it
pub record IsEntry (context : Context) (row : TokenRow) (entry : Entry) (after : Context) : Type 0 where
  pub statement : Statement
  pub says : Says (SpellsUnder context.origin) row statement
  pub enters : Enters context statement entry after
