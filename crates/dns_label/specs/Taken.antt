-- What calls of `next` on an iterator show of all its items.
use Rattle.std.specs.Prelude.{◌≡◌, ◌++◌, List, [], Bool, true, Option}
use Rattle.std.specs.Iterator.{DrainsIf}

-- Calls gave these items, and then None if `ended` says so; whatever may follow them, P does not hold of the whole.
pub record RulesOut {S A : Type 0} (steps : S → Option A → S → Type 0) (start : S) (P : List A → Type 0) : Type 0 where
  pub taken : List A
  pub ended : Bool
  pub gave : DrainsIf steps (ended ≡ true) start taken
  pub none : (rest : List A) → (ended ≡ true → rest ≡ []) → P (taken ++ rest) → ⊥
