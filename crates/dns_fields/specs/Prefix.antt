-- The octets of a field, and those that data begins with.
use Rattle.std.specs.Prelude.{◌≡◌, ℕ, List, ◌++◌}
use Rattle.std.specs.Ordering.{nat_cmp}
use Rattle.std.specs.Cmp.Lexicographic.{slice_cmp}
use Rattle.std.specs.declared.cmp.Ordering.{Ordering}

-- octets that begin with the prefix have this order to the others, whatever follows it
pub record Decides (prefix others : List ℕ) (order : Ordering) : Type 0 where
  pub decides : (behind : List ℕ) → slice_cmp nat_cmp (prefix ++ behind) others ≡ order
