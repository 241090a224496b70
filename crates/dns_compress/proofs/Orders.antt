-- A table that is sound is in order: no suffix twice, and none stops before one that was written earlier.
use Rattle.std.proofs.Common.{◌⊎◌, inl, inr, ◌≡◌, ◌≤◌, ◌<◌, ◌+◌, ℕ, Bool, true, false, List, [], ◌∷◌, ◌++◌, length, take, drop, refl, sym, ◌∙◌, ap, arith}
use Rattle.std.specs.Prelude.{⊤}
use Rattle.std.specs.List.{list_all}
use Rattle.std.specs.Coded.{Coded-set, coded_bool}
use Rattle.std.proofs.lemmas.Bool.{and_parts, and_from, leb-true, le-leb, false≢true}
use mathlib.Core.Logic.{∥∥₁_elim}
use Rattle.dns_octets.specs.Builder.{Standing, Known, before}
use Rattle.dns_name.specs.Spelling.{Spelling, tree_spelling, folded, is_same, standings}
use Rattle.dns_name.specs.Remembered.{IsKnown, AreDistinct, IsSound}
use Rattle.dns_name.specs.Remembered.IsKnown.{first, later}
use Rattle.dns_name.proofs.Known.{known-append_cases}
use Rattle.dns_name.proofs.Folding.{same_is, same_from}
use Rattle.dns_name.proofs.Distinct.{others}
use Rattle.dns_name.proofs.Spelled.{StopsBefore}
use Rattle.dns_compress.specs.Tables.{added, goes_before, in_order}
use Rattle.dns_compress.proofs.InOrder.{before_parts}

-- none stops before an earlier one
abbrev Ascends : Known → Type 0
Ascends [] = ⊤
Ascends (one ∷ known) = ((other : Standing) → IsKnown other known → one.stop ≤ other.stop) × Ascends known

order_ascends : (s : Spelling) (known : Known) → in_order s known ≡ true → Ascends known
order_ascends s [] order = tt
order_ascends s (one ∷ known) order =
    let parts = and_parts (list_all (goes_before s one) known) (in_order s known) order in
    (below known parts.0, order_ascends s known parts.1)
  where
    below : (known : Known) → list_all (goes_before s one) known ≡ true → (other : Standing) → IsKnown other known → one.stop ≤ other.stop
    below [] all other is = elim is [ ]
    below (next ∷ known) all other first = leb-true one.stop next.stop (before_parts _ _ (and_parts (goes_before s one next) _ all).0).1
    below (next ∷ known) all other (later is) = below known (and_parts (goes_before s one next) _ all).1 other is

ascends-append : (known more : Known) → Ascends known → Ascends more
    → ((one other : Standing) → IsKnown one known → IsKnown other more → one.stop ≤ other.stop) → Ascends (known ++ more)
ascends-append [] more up on between = on
ascends-append (one ∷ known) more up on between = (
  λ other is. cases other (known-append_cases known more is),
  ascends-append known more up.1 on (λ one other there is. between one other (later there) is),
)
  where
    cases : (other : Standing) → IsKnown other known ⊎ IsKnown other more → one.stop ≤ other.stop
    cases other (inl is) = up.0 other is
    cases other (inr is) = between one other first is

added_stop : (s : Spelling) (place stop : ℕ) (labels suffix : List (List ℕ)) (one : Standing) → IsKnown one (standings s place stop labels suffix)
    → one.stop ≡ stop
added_stop s place stop [] suffix one is = elim is [ ]
added_stop s place stop (label ∷ labels) suffix _ first = refl
added_stop s place stop (label ∷ labels) suffix one (later is) = added_stop s (place + 1 + length label) stop labels suffix one is

added_ascends : (s : Spelling) (place stop : ℕ) (labels suffix : List (List ℕ)) → Ascends (standings s place stop labels suffix)
added_ascends s place stop [] suffix = tt
added_ascends s place stop (label ∷ labels) suffix = (
  λ other is. (let e = added_stop s (place + 1 + length label) stop labels suffix other is in omega arith),
  added_ascends s (place + 1 + length label) stop labels suffix,
)

-- suffixes that are not equal are not equal octet for octet
apart : (s : Spelling) (one other : List ℕ) → is_same s other one ≡ false → is_same tree_spelling one other ≡ false
apart s one other differ = by_test (is_same tree_spelling one other) refl
  where
    by_test : (test : Bool) → is_same tree_spelling one other ≡ test → is_same tree_spelling one other ≡ false
    by_test true is = absurd (false≢true (sym differ ∙ same_from s other one (ap (folded s) (sym (same_is tree_spelling one other is)))))
    by_test false is = is

order_from : (s : Spelling) (known : Known) → AreDistinct s known → Ascends known → in_order tree_spelling known ≡ true
order_from s [] distinct up = refl
order_from s (one ∷ known) distinct up =
    and_from _ _ (below known (others s known one.suffix distinct.0) up.0) (order_from s known distinct.1 up.1)
  where
    one_below : (other : Standing) → is_same tree_spelling one.suffix other.suffix ≡ false → one.stop ≤ other.stop
        → goes_before tree_spelling one other ≡ true
    one_below other differ less = rw differ (le-leb one.stop other.stop less)

    below : (known : Known) → ((other : Standing) → IsKnown other known → is_same s other.suffix one.suffix ≡ false)
        → ((other : Standing) → IsKnown other known → one.stop ≤ other.stop) → list_all (goes_before tree_spelling one) known ≡ true
    below [] differ less = refl
    below (other ∷ known) differ less =
        and_from _ _ (one_below other (apart s one.suffix other.suffix (differ other first)) (less other first))
        (below known (λ next is. differ next (later is)) (λ next is. less next (later is)))

pub order_added : {s : Spelling} {octets : List ℕ} (known : Known) (count place stop : ℕ) (name : List (List ℕ)) → in_order tree_spelling known ≡ true
    → ∥ IsSound s (known ++ added s count place stop name) octets ∥₁ → StopsBefore place known → place < stop
    → in_order tree_spelling (known ++ added s count place stop name) ≡ true
order_added {s} known count place stop name order sound before behind =
    ∥∥₁_elim sound (Coded-set coded_bool _ _) (λ sound.
    order_from s (known ++ added s count place stop name) sound.distinct
    (ascends-append known (added s count place stop name) (order_ascends tree_spelling known order)
    (added_ascends s place stop (take count name) (drop count name))
    (λ one other there is.
    let e = before one there in
    let f = added_stop s place stop (take count name) (drop count name) other is in
    omega arith)))
