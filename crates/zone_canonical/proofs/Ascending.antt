-- Lists in strictly ascending order are equal if they have the same elements.
use Rattle.std.proofs.Common.{◌≡◌, ◌<◌, ◌⊎◌, ℕ, zero, suc, List, [], ◌∷◌, length, refl, sym, ap, ◌∙◌, subst, arith, inl, inr, ⊎_elim}
use Rattle.std.specs.Prelude.{slice_index_or}
use Rattle.std.specs.List.{AllByRecursion, Contains}
use Rattle.std.specs.List.Sorted.{IsStrictlySortedBy}
use Rattle.std.specs.Cmp.{IsTotalOrder}
use Rattle.std.specs.Ordering.{ordering_reverse}
use Rattle.std.specs.declared.cmp.Ordering.{Ordering}
use Rattle.std.specs.declared.cmp.Ordering.TheVariants.{Less, Equal, Greater}
use Rattle.std.proofs.lemmas.Cmp.{tied_itself}
use Rattle.std.proofs.lemmas.List.Elements.{All-contains, All-from_recursion}

-- what holds of each element holds of one that is in the list
pub all_in : {X : Type 0} (P : X → Type 0) (xs : List X) (x : X) → AllByRecursion P xs → Contains xs x → P x
all_in P xs x all has = All-contains P xs x (All-from_recursion P xs all) has

-- an element of a list is the first, or one of the others
pub contains_cases : {X : Type 0} (x z : X) (xs : List X) → Contains (x ∷ xs) z → (x ≡ z) ⊎ Contains xs z
contains_cases {X} x z xs has = at has.0 has.1 has.2
  where
    at : (k : ℕ) → k < length (x ∷ xs) → slice_index_or (x ∷ xs) k z ≡ z → (x ≡ z) ⊎ Contains xs z
    at zero within is = inl is
    at (suc k) within is = inr (k, omega arith, is)

pub contains_first : {X : Type 0} (x : X) (xs : List X) → Contains (x ∷ xs) x
contains_first x xs = (0, omega arith, refl)

pub contains_more : {X : Type 0} (x z : X) (xs : List X) → Contains xs z → Contains (x ∷ xs) z
contains_more x z xs has = (suc has.0, omega (arith, has.1), has.2)

pub contains_none : {X : Type 0} (z : X) → Contains [] z → ⊥
contains_none z has = omega (arith, has.1)

pub less_tied : Less ≡ Equal → ⊥
less_tied e = cc

pub less_greater : Less ≡ Greater → ⊥
less_greater e = cc

module _ {X : Type 0} {R : X → X → Ordering} (o : IsTotalOrder R) where
  pub never_below : (x : X) → R x x ≡ Less → ⊥
  never_below x below = less_tied (sym below ∙ tied_itself o x)

  not_both : (x y : X) → R x y ≡ Less → R y x ≡ Less → ⊥
  not_both x y below above = less_greater (sym below ∙ (o.antisymm x y ∙ ap ordering_reverse above))

  first_one : (x y : X) (xs ys : List X) → AllByRecursion (λ z. R x z ≡ Less) xs → AllByRecursion (λ z. R y z ≡ Less) ys
      → Contains (y ∷ ys) x → Contains (x ∷ xs) y → x ≡ y
  first_one x y xs ys up up' has has' =
      ⊎_elim
      (λ same. sym same)
      (λ within. ⊎_elim
      (λ same. same)
      (λ within'. absurd (not_both x y (all_in (λ z. R x z ≡ Less) xs y up within') (all_in (λ z. R y z ≡ Less) ys x up' within)))
      (contains_cases x y xs has'))
      (contains_cases y x ys has)

  -- an element after the first of one list is after the first of the other
  behind : (x y z : X) (xs ys : List X) → AllByRecursion (λ w. R x w ≡ Less) xs → x ≡ y → Contains xs z → Contains (y ∷ ys) z → Contains ys z
  behind x y z xs ys up heads has has' =
      ⊎_elim
      (λ same. absurd (never_below x (subst (λ w. R x w ≡ Less) (sym (heads ∙ same)) (all_in (λ w. R x w ≡ Less) xs z up has))))
      (λ within. within)
      (contains_cases y z ys has')

  pub same_elements : (xs ys : List X) → IsStrictlySortedBy R xs → IsStrictlySortedBy R ys
      → ((z : X) → Contains xs z → Contains ys z) → ((z : X) → Contains ys z → Contains xs z) → xs ≡ ys
  unfolding IsStrictlySortedBy
  same_elements [] [] up up' into back = refl
  same_elements [] (y ∷ ys) up up' into back = absurd (contains_none y (back y (contains_first y ys)))
  same_elements (x ∷ xs) [] up up' into back = absurd (contains_none x (into x (contains_first x xs)))
  same_elements (x ∷ xs) (y ∷ ys) up up' into back =
      let heads = first_one x y xs ys up.0 up'.0 (into x (contains_first x xs)) (back y (contains_first y ys)) in
      let tails = same_elements xs ys up.1 up'.1
      (λ z has. behind x y z xs ys up.0 heads has (into z (contains_more x z xs has)))
      (λ z has. behind y x z ys xs up'.0 (sym heads) has (back z (contains_more y z ys has))) in
      λ i. heads i ∷ tails i
