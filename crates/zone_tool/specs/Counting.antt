-- What holds while records and names are counted. Only contracts inside the crate use it.
use Rattle.std.specs.Prelude.{◌≡◌, ◌<◌, ℕ, List, Option, Some, None, length, slice_index}
use Rattle.std.specs.List.{AllByRecursion, Contains}
use Rattle.std.specs.List.Sorted.{IsStrictlySortedBy}
use Rattle.std.specs.Ordering.{on, nat_cmp}
use Rattle.dns_label.specs.Name.{low}
use Rattle.zone_records.specs.Record.{Record}
use Rattle.zone_tool.specs.Statistics.{count_of}
use Rattle.zone_tool.specs.declared.statistics.TypeCount.{TypeCount}

-- there is a last name, and it is this one up to ASCII case
abbrev pub IsLast : Option (List (List ℕ)) → List (List ℕ) → Type 0
IsLast None name = ⊥
IsLast (Some last) name = low last ≡ low name

-- at the number of each type is the number of its records
pub record AreCounters (records : List Record) (counters : List ℕ) : Type 0 where
  pub long : length counters ≡ 65536
  pub at : (rtype : ℕ) → rtype < 65536 → slice_index counters rtype ≡ count_of rtype records

-- the counters below a number that are not 0, each with its place
pub record AreCountsBelow (counters : List ℕ) (number : ℕ) (counts : List TypeCount) : Type 0 where
  pub ascend : IsStrictlySortedBy (on (λ (c : TypeCount). c.rtype) nat_cmp) counts
  pub each : AllByRecursion (λ c. (c.count ≡ slice_index counters c.rtype) × (0 < c.count) × (c.rtype < number)) counts
  pub all : (rtype : ℕ) → rtype < number → 0 < slice_index counters rtype → (c : TypeCount) × Contains counts c × (c.rtype ≡ rtype)
