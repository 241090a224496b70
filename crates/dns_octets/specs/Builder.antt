-- What a builder holds: octets, and the names that it remembers in them.
use Rattle.std.specs.Prelude.{◌≡◌, ◌≤◌, ◌<◌, ℕ, List, ◌++◌, length, filter, nat_le, All, Option, Some, None, ⊤}

-- a suffix of a name, as uncompressed wire octets, that is written at place; its spelling there, to the 0 or to the
-- pointer that ends it, ends before stop
pub record Standing : Type 0 where
  pub suffix : List ℕ
  pub place : ℕ
  pub stop : ℕ

-- what is remembered, in the order of writing
abbrev pub Known : Type 0
Known = List Standing

-- what is still remembered after the octets are cut to a length
abbrev pub before : ℕ → Known → Known
before len known = filter (λ suffix. nat_le suffix.stop len) known

-- the suffix is written between two places
pub record StandsBetween (first last : ℕ) (suffix : Standing) : Type 0 where
  pub begins : first ≤ suffix.place
  pub spelled : suffix.place < suffix.stop
  pub ends : suffix.stop ≤ last

-- the new octets are the old ones and a tail, and what is newly remembered is in the tail
pub record GrowsTo (old : List ℕ) (old_known : Known) (new : List ℕ) (new_known : Known) : Type 0 where
  pub tail : List ℕ
  pub octets : new ≡ old ++ tail
  pub added : Known
  pub known : new_known ≡ old_known ++ added
  pub between : All (StandsBetween (length old) (length new)) added

-- a length is within a bound, or past it; None is no bound
abbrev pub IsWithin : Option ℕ → ℕ → Type 0
IsWithin (Some bound) len = len ≤ bound
IsWithin None len = ⊤

abbrev pub IsPast : Option ℕ → ℕ → Type 0
IsPast (Some bound) len = bound < len
IsPast None len = ⊥
