-- How many records, names and delegations a zone has (RFC 1034 4.2.1), and the octets of its transfer's stream.
use Rattle.std.specs.Prelude.{◌≡◌, ◌≢◌, ◌<◌, ℕ, Bool, false, true, List, ⊤, nat_eq, filter, length}
use Rattle.std.specs.List.{AllByRecursion, Contains}
use Rattle.std.specs.List.Sorted.{IsStrictlySortedBy}
use Rattle.std.specs.Ordering.{on, nat_cmp}
use Rattle.dns_label.specs.Name.{low}
use Rattle.dns_wire.specs.Order.{labels_order}
use Rattle.zone_records.specs.Record.{Record}
use Rattle.zone_core.specs.Query.{query_octets}
use Rattle.zone.specs.View.{Contents, apex_of}
use Rattle.zone_send.specs.Best.{IsSentFor}
use Rattle.zone_core.specs.declared.spelling.Spelling.{Spelling}
use Rattle.zone_tool.specs.declared.statistics.Statistics.{Statistics}
use Rattle.zone_tool.specs.declared.statistics.TypeCount.{TypeCount}

-- the number of the type NS (RFC 1035 3.2.2)
abbrev pub ns_type : ℕ
ns_type = 2

-- the number of the records of a type
abbrev pub count_of : ℕ → List Record → ℕ
count_of rtype records = length (filter (λ r. nat_eq r.rtype rtype) records)

-- The counts are those of the types that the records have, by the number of the type.
pub record AreTypeCounts (records : List Record) (counts : List TypeCount) : Type 0 where
  pub ascend : IsStrictlySortedBy (on (λ (c : TypeCount). c.rtype) nat_cmp) counts
  pub each : AllByRecursion (λ c. (c.count ≡ count_of c.rtype records) × (0 < c.count)) counts
  pub all : AllByRecursion (λ r. (c : TypeCount) × Contains counts c × (c.rtype ≡ r.rtype)) records

-- the record is of a name below the apex that has name servers of its own
abbrev pub IsDelegation : List (List ℕ) → Record → Type 0
IsDelegation apex r = (r.rtype ≡ ns_type) × (low r.owner ≢ low apex)

-- the record is counted: any is, or only those of delegations
abbrev pub IsCounted : Bool → List (List ℕ) → Record → Type 0
IsCounted false apex r = ⊤
IsCounted true apex r = IsDelegation apex r

-- The names are the owners of these records, in lower case, each once.
pub record AreOwners (Holds : Record → Type 0) (records : List Record) (names : List (List (List ℕ))) : Type 0 where
  pub ascend : IsStrictlySortedBy labels_order names
  pub only : AllByRecursion (λ name. (r : Record) × Contains records r × Holds r × (low r.owner ≡ name)) names
  pub all : AllByRecursion (λ r. Holds r → Contains names (low r.owner)) records

-- so many names
abbrev pub IsOwnerCount : (Record → Type 0) → List Record → ℕ → Type 0
IsOwnerCount Holds records count = (names : List (List (List ℕ))) × AreOwners Holds records names × (count ≡ length names)

pub record AreStatistics (records : List Record) (numbers : Statistics) : Type 0 where
  pub whole : numbers.records ≡ length records
  pub types : AreTypeCounts records numbers.types.items
  pub names : IsOwnerCount (λ r. ⊤) records numbers.names
  pub delegations : IsOwnerCount (IsDelegation (apex_of records)) records numbers.delegations

-- the query for the zone's transfer, with the ID 0
abbrev pub transfer_query : Contents → List ℕ
transfer_query zone = query_octets (record { id = 0; recursion = false; name = apex_of zone.records; class = zone.class })

-- a stream that is sent for the zone has so many octets
pub record IsStreamLen (spelling : Spelling) (zone : Contents) (max len : ℕ) : Type 0 where
  pub stream : List ℕ
  pub sent : IsSentFor spelling zone.records zone.class (transfer_query zone) max stream
  pub long : len ≡ length stream
