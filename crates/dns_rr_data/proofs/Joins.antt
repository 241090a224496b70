-- Strings that are joined after octets.
use Rattle.std.proofs.Common.{◌≡◌, ℕ, List, ◌++◌}
use Rattle.std.specs.Prelude.{Option}
use Rattle.std.specs.List.{concat}

-- what is left of the strings, after what there is, makes up all
pub record Joins (old now : List ℕ) (all left : List (List ℕ)) (bound other : Option ℕ) : Type 0 where
  pub joined : now ++ concat left ≡ old ++ concat all
  pub bounds : other ≡ bound
