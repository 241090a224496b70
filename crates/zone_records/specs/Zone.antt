-- Which records are a zone: first one SOA, then records at or under its owner (RFC 1035 5.2, RFC 5936 2.2).
use Rattle.std.specs.Prelude.{◌≡◌, ◌≢◌, ℕ, List, [], ◌∷◌, ⊤}
use Rattle.std.specs.List.{AllByRecursion}
use Rattle.dns_label.specs.Name.{low}
use Rattle.dns_wire.specs.Suffix.{EndsWith}
use Rattle.zone_records.specs.Record.{Record}

-- the numbers of the types and classes in the rules (RFC 1035 3.2.2; 3.2.3 for AXFR, 3.2.5 for any class)
abbrev pub soa_type : ℕ
soa_type = 6

abbrev pub axfr_type : ℕ
axfr_type = 252

abbrev pub any_class : ℕ
any_class = 255

-- the name is the apex or a name under it (RFC 1034 3.1), names compared up to ASCII case (RFC 4343)
abbrev pub IsUnder : List (List ℕ) → List (List ℕ) → Type 0
IsUnder apex name = EndsWith (low name) (low apex)

-- a record that may follow the SOA
pub record IsBehindSoa (soa r : Record) : Type 0 where
  pub no_soa : r.rtype ≢ soa_type
  pub under : IsUnder soa.owner r.owner

-- the records are a zone: its SOA, and then those that may follow it
abbrev pub IsZone : List Record → Type 0
IsZone [] = ⊥
IsZone (soa ∷ others) = (soa.rtype ≡ soa_type) × AllByRecursion (IsBehindSoa soa) others

-- a zone's first records, perhaps none of them
abbrev pub IsZoneFront : List Record → Type 0
IsZoneFront [] = ⊤
IsZoneFront records = IsZone records
