-- Facts that are decided.
use Rattle.std.specs.Prelude.{◌≡◌, ◌<◌, ◌≤◌, ◌⊎◌, ℕ, Bool, true, false}
use Rattle.std.proofs.Common.{ltb, ltb-true, ltb-false, inl, inr, refl, arith}
use Rattle.std.proofs.lemmas.Bool.{false≢true}

-- A fact holds, or it does not.
pub data Decision (P : Type 0) : Type 0 where
  yes : P → Decision P
  no : (P → ⊥) → Decision P

-- whether it holds
abbrev pub holds : {P : Type 0} → Decision P → Bool
holds (Decision.yes fact) = true
holds (Decision.no none) = false

module _ {P : Type 0} where
  pub holds-true : (decision : Decision P) → P → holds decision ≡ true
  holds-true (Decision.yes fact) is = refl
  holds-true (Decision.no none) is = absurd (none is)

  pub true-holds : (decision : Decision P) → holds decision ≡ true → P
  true-holds (Decision.yes fact) is = fact
  true-holds (Decision.no none) is = absurd (false≢true is)

  -- two facts
  pub both : {Q : Type 0} → Decision P → Decision Q → Decision (P × Q)
  both (Decision.yes first) (Decision.yes second) = Decision.yes (first, second)
  both (Decision.yes first) (Decision.no none) = Decision.no (λ facts. none facts.1)
  both (Decision.no none) second = Decision.no (λ facts. none facts.0)

-- an order
pub below : (a b : ℕ) → (a < b) ⊎ (b ≤ a)
below a b = by_test (ltb a b) refl
  where
    by_test : (test : Bool) → ltb a b ≡ test → (a < b) ⊎ (b ≤ a)
    by_test true is = inl (ltb-true a b is)
    by_test false is = inr (ltb-false a b is)

pub decide-below : (a b : ℕ) → Decision (a < b)
decide-below a b = by_order (below a b)
  where
    by_order : (a < b) ⊎ (b ≤ a) → Decision (a < b)
    by_order (inl less) = Decision.yes less
    by_order (inr more) = Decision.no (λ less. omega arith)
