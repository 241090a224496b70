-- Lists in strictly ascending order.
use Rattle.std.proofs.Common.{◌≡◌, ℕ, zero, suc, Some, List, [], ◌∷◌, ◌++◌, take}
use Rattle.std.specs.Prelude.{slice_get}
use Rattle.std.specs.List.{AllByRecursion}
use Rattle.std.specs.List.Sorted.{IsStrictlySortedBy}
use Rattle.std.specs.declared.cmp.Ordering.{Ordering}
use Rattle.std.specs.declared.cmp.Ordering.TheVariants.{Less}
use Rattle.zone_records.proofs.Indexed.{all_at}
use Rattle.zone_tool.proofs.Elements.{all_push}

all_last : {X : Type 0} (P : X → Type 0) (xs : List X) (x : X) → AllByRecursion P (xs ++ x ∷ []) → P x
all_last P [] x all = all.0
all_last P (y ∷ xs) x all = all_last P xs x all.1

-- what is before an element is less
pub below_at : {X : Type 0} (c : X → X → Ordering) (xs : List X) (i : ℕ) (x : X) → IsStrictlySortedBy c xs → slice_get xs i ≡ Some x
    → AllByRecursion (λ y. c y x ≡ Less) (take i xs)
unfolding IsStrictlySortedBy
below_at c [] i x ascend at = absurd cc
below_at c (y ∷ xs) zero x ascend at = tt
below_at c (y ∷ xs) (suc i) x ascend at = (all_at (λ z. c y z ≡ Less) xs i x at ascend.0, below_at c xs i x ascend.1 at)

pub below_last : {X : Type 0} (c : X → X → Ordering) (xs : List X) (x : X) → IsStrictlySortedBy c (xs ++ x ∷ [])
    → AllByRecursion (λ y. c y x ≡ Less) xs
unfolding IsStrictlySortedBy
below_last c [] x ascend = tt
below_last c (y ∷ xs) x ascend = (all_last (λ z. c y z ≡ Less) xs x ascend.0, below_last c xs x ascend.1)

pub ascend_push : {X : Type 0} (c : X → X → Ordering) (xs : List X) (x : X) → IsStrictlySortedBy c xs → AllByRecursion (λ y. c y x ≡ Less) xs
    → IsStrictlySortedBy c (xs ++ x ∷ [])
unfolding IsStrictlySortedBy
ascend_push c [] x ascend below = (tt, tt)
ascend_push c (y ∷ xs) x ascend below = (all_push (λ z. c y z ≡ Less) xs x ascend.0 below.0, ascend_push c xs x ascend.1 below.1)

pub ascend_none : {X : Type 0} (c : X → X → Ordering) → IsStrictlySortedBy c []
unfolding IsStrictlySortedBy
ascend_none c = tt
