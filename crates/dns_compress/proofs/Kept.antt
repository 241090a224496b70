-- The place of a suffix in a list, with one suffix more.
use Rattle.std.proofs.Common.{◌≡◌, ℕ, Bool, true, false, Some, None, List, [], ◌∷◌, ◌++◌, refl, sym, subst}
use Rattle.std.specs.Prelude.{nat_eq, cond}
use Rattle.std.specs.Cmp.Lexicographic.{pointwise}
use lib.Pointwise.{bytes_decides}
use Rattle.dns_octets.specs.Builder.{Standing, Known}
use Rattle.dns_name.specs.Spelling.{Spelling, tree_spelling, is_same, place_in}
use Rattle.dns_compress.proofs.InOrder.{goes_last, place_in-fresh}

place_in-last : (s : Spelling) (known : Known) (other : Standing) (suffix : List ℕ) → place_in s known suffix ≡ None
    → is_same s other.suffix suffix ≡ true → place_in s (known ++ other ∷ []) suffix ≡ Some other.place
place_in-last s [] other suffix none same = rw same refl
place_in-last s (one ∷ known) other suffix none same =
    by_test (is_same s one.suffix suffix) refl (λ none. place_in-last s known other suffix none same)
  where
    by_test : (test : Bool) → is_same s one.suffix suffix ≡ test
        → (place_in s known suffix ≡ None → place_in s (known ++ other ∷ []) suffix ≡ Some other.place)
        → place_in s (one ∷ known ++ other ∷ []) suffix ≡ Some other.place
    by_test true is on = absurd (let e : Some one.place ≡ None = rw is at none in cc)
    by_test false is on = rw is (on (let e : place_in s known suffix ≡ None = rw is at none in e))

pub place_in-past : (s : Spelling) (known : Known) (other : Standing) (suffix : List ℕ) → is_same s other.suffix suffix ≡ false
    → place_in s (known ++ other ∷ []) suffix ≡ place_in s known suffix
place_in-past s [] other suffix differs = rw differs refl
place_in-past s (one ∷ known) other suffix differs = by_test (is_same s one.suffix suffix) refl (place_in-past s known other suffix differs)
  where
    by_test : (test : Bool) → is_same s one.suffix suffix ≡ test → place_in s (known ++ other ∷ []) suffix ≡ place_in s known suffix
        → place_in s (one ∷ known ++ other ∷ []) suffix ≡ place_in s (one ∷ known) suffix
    by_test true is on = rw is refl
    by_test false is on = rw is on

pub place_in-push : (known : Known) (other : Standing) (suffix : List ℕ) → goes_last tree_spelling known other ≡ true
    → cond (pointwise nat_eq other.suffix suffix) (Some other.place) (place_in tree_spelling known suffix)
    ≡ place_in tree_spelling (known ++ other ∷ []) suffix
place_in-push known other suffix last = by_test (pointwise nat_eq other.suffix suffix) refl
  where
    by_test : (test : Bool) → pointwise nat_eq other.suffix suffix ≡ test
        → cond test (Some other.place) (place_in tree_spelling known suffix) ≡ place_in tree_spelling (known ++ other ∷ []) suffix
    by_test true is =
        sym (place_in-last tree_spelling known other suffix
        (subst (λ l. place_in tree_spelling known l ≡ None) ((bytes_decides other.suffix suffix).0 is) (place_in-fresh tree_spelling known other last)) is)
    by_test false is = sym (place_in-past tree_spelling known other suffix is)
