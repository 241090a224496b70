-- A record whose octets are appended while its row is read. Only contracts inside the crate name it.
use Rattle.std.specs.Prelude.{◌≡◌, ◌≤◌, ℕ, Bool, List, [], ◌++◌, Option, Some, Ok, length}
use Rattle.std.specs.Option.{option_or}
use Rattle.dns_header.specs.Head.{after_length}
use Rattle.dns_header.specs.Record.{RecordOf}
use Rattle.dns_label.specs.Name.{IsName, wire}
use Rattle.dns_rdata.specs.Data.{Data, ScansAnyData, is_unknown}
use Rattle.dns_rdata.specs.DataOctets.{data_octets}
use Rattle.dns_scan.specs.Token.{Token}
use Rattle.dns_text.specs.Rows.{TokenRow}
use Rattle.dns_zonefile.specs.Composed.{HandsOn, IsHeld, composed_octets}
use Rattle.dns_zonefile.specs.Entry.{Context, Entry, Enters}
use Rattle.dns_zonefile.specs.Entry.Entry.{Resource}
use Rattle.dns_zonefile.specs.RowRead.{IsGiven}
use Rattle.dns_zonefile.specs.Statement.{HasOwner, Names, Says, Stated}
use Rattle.dns_zonefile.specs.Statement.Statement.{StateRecord}
use Rattle.dns_zonefile.specs.declared.entry.ComposedEntry.{ComposedEntry}
use Rattle.dns_zonefile.specs.declared.entry_form.octets.ComposedRecord.{ComposedRecord}

-- The tokens up to the row's end are data of the type. Its octets follow their length, and both follow the old ones.
pub record ComposesData (names : Names) (rtype : ℕ) (tokens : List Token) (old new : List ℕ) (unknown : Bool) : Type 0 where
  pub rdata : Data
  pub scans : ScansAnyData names rtype rdata tokens []
  pub short : length (data_octets rdata) ≤ 65535
  pub behind : new ≡ old ++ after_length (data_octets rdata)
  pub unknown_is : unknown ≡ is_unknown rdata

-- The row's owner in the context, stated or the last one, and the tokens that are left. Its octets follow the old ones.
pub record OwnerStands (names : Names) (context : Context) (row : TokenRow) (left : List Token) (old new : List ℕ) : Type 0 where
  pub stated : Option (List (List ℕ))
  pub name : List (List ℕ)
  pub has : HasOwner names row stated left
  pub known : option_or stated context.owner ≡ Some name
  pub is_name : IsName name
  pub behind : new ≡ old ++ wire name

-- the row has no owner in the context
pub record HasNoOwner (names : Names) (context : Context) (row : TokenRow) : Type 0 where
  pub none : (stated : Option (List (List ℕ))) (left : List Token) (name : List (List ℕ)) → HasOwner names row stated left
      → option_or stated context.owner ≡ Some name → ⊥

-- the first `len` octets are the name
pub record BeginsWithName (octets : List ℕ) (len : ℕ) (name : List (List ℕ)) : Type 0 where
  pub rest : List ℕ
  pub is_name : IsName name
  pub is : octets ≡ wire name ++ rest
  pub long : len ≡ length (wire name)

-- The row is a record in the context, and sets what is composed. Its octets follow the old ones.
pub record ComposesRecord (names : Names) (context : Context) (row : TokenRow) (composed : ComposedRecord) (old new : List ℕ) : Type 0 where
  pub stated : Stated
  pub rr : RecordOf (List (List ℕ)) Data
  pub says : Says names row (StateRecord stated)
  pub enters : Enters context (StateRecord stated) (Resource rr)
      (record context { owner = Some rr.owner; last_ttl = composed.last_ttl; class = Some composed.class })
  pub owner_len : composed.owner_len ≡ length (wire rr.owner)
  pub held : IsHeld rr
  pub behind : new ≡ old ++ composed_octets rr
  pub unknown_is : composed.unknown ≡ is_unknown rr.rdata

-- an entry in the form of octets, by those before and after it
abbrev pub IsHandedOn : List ℕ → Entry → Option ComposedEntry → List ℕ → Type 0
IsHandedOn old entry given new = IsGiven (λ old it given new. HandsOn old (Ok (Some it)) (Ok (Some given)) new) old entry given new
