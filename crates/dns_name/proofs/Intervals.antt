-- Names between two names at or under an apex.
use Rattle.std.proofs.Common.{◌≡◌, ℕ, false, List, [], ◌∷◌, ◌++◌, reverse, refl, sym, ◌∙◌, ap, subst, append-nil, true≢false}
use Rattle.std.specs.declared.cmp.Ordering.{Ordering}
use Rattle.std.specs.declared.cmp.Ordering.TheVariants.{Less, Equal, Greater}
use Rattle.std.specs.Ordering.{ordering_then, ordering_reverse, nat_cmp, is_gt}
use Rattle.std.specs.Cmp.Lexicographic.{slice_cmp, lists_total, nat_list_cmp_total}
use Rattle.std.specs.FinMap.{slice_cmp-IsAntisymmetric, nat_cmp-IsAntisymmetric}
use Rattle.std.proofs.lemmas.List.{reverse-append, reverse-reverse}
use Rattle.dns_label.specs.Name.{low}
use Rattle.dns_wire.specs.Order.{labels_order}
use Rattle.dns_wire.specs.Suffix.{EndsWith}
use Rattle.dns_wire.proofs.Orders.{cmp_seam}

-- what is between two equal ones is equal to them, and the rest is between the rests
level : (o p s t : Ordering) → o ≡ ordering_reverse p → is_gt (ordering_then o s) ≡ false → is_gt (ordering_then p t) ≡ false
    → (o ≡ Equal) × (is_gt s ≡ false) × (is_gt t ≡ false)
level Equal Equal s t same lo hi = (refl, lo, hi)
level Less Greater s t same lo hi = absurd (true≢false hi)
level Greater p s t same lo hi = absurd (true≢false lo)
level Less Less s t same lo hi = cc
level Less Equal s t same lo hi = cc
level Equal Less s t same lo hi = cc
level Equal Greater s t same lo hi = cc

between : (front x z y : List (List ℕ)) → is_gt (slice_cmp (slice_cmp nat_cmp) (front ++ x) y) ≡ false
    → is_gt (slice_cmp (slice_cmp nat_cmp) y (front ++ z)) ≡ false → (rest : List (List ℕ)) × (y ≡ front ++ rest)
between [] x z y lo hi = (y, refl)
between (label ∷ front) x z [] lo hi = absurd (true≢false lo)
between (label ∷ front) x z (other ∷ y) lo hi =
    let here = level (slice_cmp nat_cmp label other) (slice_cmp nat_cmp other label) _ _ (nat_list_cmp_total.antisymm label other) lo hi in
    let same : label ≡ other = slice_cmp-IsAntisymmetric nat_cmp-IsAntisymmetric label other here.0 in
    let more = between front x z y here.1 here.2 in
    (more.0, ap (λ l. l ∷ y) (sym same) ∙ ap (λ l. label ∷ l) more.1)

ends_reversed : (name apex : List (List ℕ)) → (ends : EndsWith (low name) (low apex)) → reverse (low name) ≡ reverse (low apex) ++ reverse ends.front
ends_reversed name apex ends = ap reverse ends.whole_is ∙ reverse-append ends.front (low apex)

pub apex_interval : (apex first name last : List (List ℕ)) → EndsWith (low first) (low apex) → EndsWith (low last) (low apex)
    → is_gt (labels_order first name) ≡ false → is_gt (labels_order name last) ≡ false → EndsWith (low name) (low apex)
apex_interval apex first name last from to lo hi =
    let P : List (List ℕ) → Type 0 = λ l. is_gt (slice_cmp (slice_cmp nat_cmp) l (reverse (low name))) ≡ false in
    let Q : List (List ℕ) → Type 0 = λ l. is_gt (slice_cmp (slice_cmp nat_cmp) (reverse (low name)) l) ≡ false in
    let found = between (reverse (low apex)) (reverse from.front) (reverse to.front) (reverse (low name))
    (subst P (ends_reversed first apex from) lo) (subst Q (ends_reversed last apex to) hi) in
    record {
      front = reverse found.0;
      whole_is = sym (reverse-reverse (low name)) ∙ ap reverse found.1 ∙ reverse-append (reverse (low apex)) found.0
          ∙ ap (λ l. reverse found.0 ++ l) (reverse-reverse (low apex));
    }

even : (o : Ordering) → o ≡ ordering_reverse o → o ≡ Equal
even Equal same = refl
even Less same = cc
even Greater same = cc

none_before : (rest : List (List ℕ)) → is_gt (slice_cmp (slice_cmp nat_cmp) [] rest) ≡ false
none_before [] = refl
none_before (label ∷ rest) = refl

pub order_self : (labels : List (List ℕ)) → slice_cmp (slice_cmp nat_cmp) labels labels ≡ Equal
order_self labels = even (slice_cmp (slice_cmp nat_cmp) labels labels) ((lists_total nat_list_cmp_total).antisymm labels labels)

pub apex_least : (apex name : List (List ℕ)) → EndsWith (low name) (low apex) → is_gt (labels_order apex name) ≡ false
apex_least apex name ends =
    let front = reverse (low apex) in
    let rest = reverse ends.front in
    let whole : labels_order apex name ≡ slice_cmp (slice_cmp nat_cmp) [] rest =
    ap (slice_cmp (slice_cmp nat_cmp) front) (ends_reversed name apex ends)
    ∙ ap (λ l. slice_cmp (slice_cmp nat_cmp) l (front ++ rest)) (sym (append-nil front))
    ∙ cmp_seam (slice_cmp nat_cmp) front front [] rest refl
    ∙ ap (λ o. ordering_then o (slice_cmp (slice_cmp nat_cmp) [] rest)) (order_self front) in
    ap is_gt whole ∙ none_before rest

-- the order is `Equal` for names that are the same up to ASCII case, and for no others
pub order_equal : (name other : List (List ℕ)) → low name ≡ low other → labels_order name other ≡ Equal
order_equal name other same =
    ap (λ l. slice_cmp (slice_cmp nat_cmp) (reverse l) (reverse (low other))) same ∙ order_self (reverse (low other))

pub equal_names : (name other : List (List ℕ)) → labels_order name other ≡ Equal → low name ≡ low other
equal_names name other equal =
    sym (reverse-reverse (low name))
    ∙ ap reverse (slice_cmp-IsAntisymmetric (slice_cmp-IsAntisymmetric nat_cmp-IsAntisymmetric) (reverse (low name)) (reverse (low other)) equal)
    ∙ reverse-reverse (low other)
