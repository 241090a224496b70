-- Records made from others, field by field.
use Rattle.std.specs.Prelude.{◌≡◌, ◌⊎◌, ℕ, List, ◌∷◌, Result, Ok, Err, MatchResult}
use Rattle.std.specs.Int.{to_be_bytes, w16}
use Rattle.dns_label.specs.Name.{low, wire}
use Rattle.dns_header.specs.Record.{RecordOf}

-- a record with other data
abbrev pub with_data : {Owner Data : Type 0} → RecordOf Owner Data → Data → RecordOf Owner Data
with_data rr rdata = record { owner = rr.owner; class = rr.class; ttl = rr.ttl; rdata = rdata }

-- a record with another TTL
abbrev pub with_ttl : {Owner Data : Type 0} → RecordOf Owner Data → ℕ → RecordOf Owner Data
with_ttl rr ttl = record { owner = rr.owner; class = rr.class; ttl = ttl; rdata = rr.rdata }

-- The result is the source with its owner, and then its data, converted; `owner_gives` and `data_gives` relate each and
-- the result of its conversion.
abbrev pub IsConvertedRecord : {Owner Data Source SourceData E : Type 0} → (Source → Result Owner E → Type 0)
    → (SourceData → Result Data E → Type 0) → RecordOf Source SourceData → Result (RecordOf Owner Data) E → Type 0
IsConvertedRecord {Owner} owner_gives data_gives source result =
    MatchResult result
    (λ made. owner_gives source.owner (Ok made.owner) × data_gives source.rdata (Ok made.rdata)
    × (made.class ≡ source.class) × (made.ttl ≡ source.ttl))
    (λ error. owner_gives source.owner (Err error)
    ⊎ ((owner : Owner) × owner_gives source.owner (Ok owner) × data_gives source.rdata (Err error)))

-- the other record has flat names instead of these
abbrev pub IsFlatRecord : {Owner Data Flat FlatData : Type 0} → (Owner → Flat → Type 0) → (Data → FlatData → Type 0)
    → RecordOf Owner Data → RecordOf Flat FlatData → Type 0
IsFlatRecord owner rdata rr flat =
    owner rr.owner flat.owner × rdata rr.rdata flat.rdata × (flat.class ≡ rr.class) × (flat.ttl ≡ rr.ttl)

-- what a hasher takes of a record: the TTL does not count
abbrev pub record_keys : {Owner Data : Type 0} → (Owner → List (List ℕ)) → (Data → List (List ℕ)) → RecordOf Owner Data → List (List ℕ)
record_keys labels keys rr = wire (low (labels rr.owner)) ∷ to_be_bytes w16 rr.class ∷ keys rr.rdata
