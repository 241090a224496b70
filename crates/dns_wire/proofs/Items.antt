-- Items of a list by their number.
use Rattle.std.proofs.Common.{◌≡◌, ◌<◌, ◌+◌, ℕ, zero, suc, List, [], ◌∷◌, length, drop, refl, sym, ◌∙◌, ap, arith}
use Rattle.std.specs.Prelude.{Some, None, slice_get}
use Rattle.std.proofs.lemmas.Option.{slice_get_within}

pub none_left : {A : Type 0} (items : List A) (index : ℕ) → None ≡ slice_get items index → drop index items ≡ []
none_left [] zero none = refl
none_left [] (suc index) none = refl
none_left (item ∷ items) zero none = cc
none_left (item ∷ items) (suc index) none = none_left items index none

pub some_within : {A : Type 0} (items : List A) (index : ℕ) (item : A) → Some item ≡ slice_get items index → index < length items
some_within items index item some = slice_get_within items index item (sym some)

pub some_left : {A : Type 0} (items : List A) (index : ℕ) (item : A) → Some item ≡ slice_get items index
    → drop index items ≡ item ∷ drop (index + 1) items
some_left [] index item some = cc
some_left (first ∷ items) zero item some = let e : item ≡ first = cc in ap (λ x. x ∷ items) (sym e)
some_left (first ∷ items) (suc index) item some =
    let e : suc (index + 1) ≡ suc index + 1 = omega arith in
    some_left items index item some ∙ ap (λ (n : ℕ). item ∷ drop n (first ∷ items)) e
