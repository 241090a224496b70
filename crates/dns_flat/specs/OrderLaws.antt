-- The order of names is total, and it is `Equal` exactly for names that are the same up to ASCII case.
use Rattle.std.specs.Prelude.{◌≡◌, ℕ, Bool, true, false, List, [], ◌∷◌, reverse, nat_eq, IsTrue}
use Rattle.std.proofs.Common.{refl, sym, ◌∙◌, ap}
use Rattle.std.proofs.lemmas.List.{reverse-reverse}
use Rattle.std.specs.Cmp.{IsTotalOrder, IsEquivalence, on_total, on_equiv, nat_eq_equiv}
use Rattle.std.specs.Cmp.Lexicographic.{pointwise, slice_cmp, lists_total, lists_equiv, lists_ties, nat_list_cmp_total, texts_ties}
use Rattle.std.specs.Ordering.{is_eq, nat_cmp, on}
use lib.Pointwise.{pointwise_decides, bytes_decides}
use Rattle.dns_label.specs.Name.{low, wire, labels_wire}
use Rattle.dns_wire.specs.Order.{labels_order}

pub labels_total : IsTotalOrder labels_order
labels_total = on_total (λ name. reverse (low name)) (lists_total nat_list_cmp_total)

same_test : (a b : Bool) → (a ≡ true → b ≡ true) → (b ≡ true → a ≡ true) → a ≡ b
same_test true b on back = sym (on refl)
same_test false true on back = back refl
same_test false false on back = refl

decides : (a b : List (List ℕ)) → (pointwise (pointwise nat_eq) a b ≡ true → a ≡ b) × (a ≡ b → pointwise (pointwise nat_eq) a b ≡ true)
decides a b = pointwise_decides {E = pointwise nat_eq} bytes_decides a b

same_reversed : (a b : List (List ℕ)) → pointwise (pointwise nat_eq) a b ≡ pointwise (pointwise nat_eq) (reverse a) (reverse b)
same_reversed a b =
    same_test (pointwise (pointwise nat_eq) a b) (pointwise (pointwise nat_eq) (reverse a) (reverse b))
    (λ yes. (decides (reverse a) (reverse b)).1 (ap reverse ((decides a b).0 yes)))
    (λ yes. (decides a b).1 (sym (reverse-reverse a) ∙ ap reverse ((decides (reverse a) (reverse b)).0 yes) ∙ reverse-reverse b))

pub labels_ties : (x y : List (List ℕ)) → pointwise (pointwise nat_eq) (low x) (low y) ≡ is_eq (labels_order x y)
labels_ties x y = same_reversed (low x) (low y) ∙ lists_ties (slice_cmp nat_cmp) texts_ties (reverse (low x)) (reverse (low y))

-- names that are the same up to ASCII case have the same octets in lower case
pub labels_alike : (x y : List (List ℕ)) → IsTrue (pointwise (pointwise nat_eq) (low x) (low y)) → wire (low x) ∷ [] ≡ wire (low y) ∷ []
labels_alike x y same = ap (λ (n : List (List ℕ)). wire n ∷ []) ((decides (low x) (low y)).0 same)

pub labels_equivalence : IsEquivalence (on low (pointwise (pointwise nat_eq)))
labels_equivalence = on_equiv low (lists_equiv (lists_equiv nat_eq_equiv))

-- relative names that are the same up to ASCII case have the same octets in lower case
pub relative_alike : (x y : List (List ℕ)) → IsTrue (pointwise (pointwise nat_eq) (low x) (low y)) → labels_wire (low x) ∷ [] ≡ labels_wire (low y) ∷ []
relative_alike x y same = ap (λ (n : List (List ℕ)). labels_wire n ∷ []) ((decides (low x) (low y)).0 same)
