-- The order of labels from the right.
use Rattle.std.proofs.Common.{◌≡◌, ℕ, ◌+◌, ◌-◌, ◌<◌, ◌≤◌, ◌⊎◌, min, List, [], ◌∷◌, ◌++◌, length, drop, map, reverse, refl, sym, ◌∙◌, ap, arith, length-append, length-drop, length-take, take, subst₂, inl, inr, true, false, leb}
use Rattle.std.specs.declared.cmp.Ordering.{Ordering}
use Rattle.std.specs.declared.cmp.Ordering.TheVariants.{Less, Equal, Greater}
use Rattle.std.specs.Ordering.{ordering_then, nat_cmp}
use borrow.Author.Tests.{leb-true, leb-false}
use Rattle.std.specs.Cmp.{nat_cmp_is}
use Rattle.std.specs.Cmp.Lexicographic.{slice_cmp}
use Rattle.std.specs.Char.{to_ascii_lowercase}
use Rattle.std.proofs.lemmas.List.{map-append, length-map, reverse-append, length-reverse, take-append-drop, drop_all}
use Rattle.dns_label.specs.Name.{low}
use Rattle.dns_wire.specs.Order.{label_order, labels_order}

pub then_assoc : (a b c : Ordering) → ordering_then (ordering_then a b) c ≡ ordering_then a (ordering_then b c)
then_assoc Less b c = refl
then_assoc Equal b c = refl
then_assoc Greater b c = refl

pub then_equal : (a : Ordering) → ordering_then a Equal ≡ a
then_equal Less = refl
then_equal Equal = refl
then_equal Greater = refl

-- lists with fronts of the same length are compared by these first
pub cmp_seam : {K : Type 0} (R : K → K → Ordering) (xs ys us vs : List K) → length xs ≡ length ys
    → slice_cmp R (xs ++ us) (ys ++ vs) ≡ ordering_then (slice_cmp R xs ys) (slice_cmp R us vs)
cmp_seam R [] [] us vs long = refl
cmp_seam R [] (y ∷ ys) us vs long = absurd (omega arith)
cmp_seam R (x ∷ xs) [] us vs long = absurd (omega arith)
cmp_seam R (x ∷ xs) (y ∷ ys) us vs long =
    ap (ordering_then (R x y)) (cmp_seam R xs ys us vs (omega arith)) ∙ sym (then_assoc (R x y) (slice_cmp R xs ys) (slice_cmp R us vs))

reverse_low : (front rest : List (List ℕ)) → reverse (low (front ++ rest)) ≡ reverse (low rest) ++ reverse (low front)
reverse_low front rest = ap reverse (map-append (map to_ascii_lowercase) front rest) ∙ reverse-append (low front) (low rest)

length_low : (labels : List (List ℕ)) → length (reverse (low labels)) ≡ length labels
length_low labels = length-reverse (low labels) ∙ length-map labels (map to_ascii_lowercase)

-- of labels that are followed by the same number of others, the front ones decide only if the others are the same
pub order_front : (front others rest rests : List (List ℕ)) → length rest ≡ length rests
    → labels_order (front ++ rest) (others ++ rests) ≡ ordering_then (labels_order rest rests) (labels_order front others)
order_front front others rest rests long =
    ap (λ l. slice_cmp (slice_cmp nat_cmp) l (reverse (low (others ++ rests)))) (reverse_low front rest)
    ∙ ap (slice_cmp (slice_cmp nat_cmp) (reverse (low rest) ++ reverse (low front))) (reverse_low others rests)
    ∙ cmp_seam (slice_cmp nat_cmp) (reverse (low rest)) (reverse (low rests)) (reverse (low front)) (reverse (low others))
    (length_low rest ∙ long ∙ sym (length_low rests))

order_one : (label other : List ℕ) → labels_order (label ∷ []) (other ∷ []) ≡ label_order label other
order_one label other = then_equal (label_order label other)

-- one label more on both sides
pub order_more : {labels others rest rests : List (List ℕ)} {label other : List ℕ} (order tied : Ordering)
    → labels ≡ label ∷ rest → others ≡ other ∷ rests → length rest ≡ length rests
    → order ≡ ordering_then (label_order label other) tied
    → ordering_then (labels_order labels others) tied ≡ ordering_then (labels_order rest rests) order
order_more {labels} {others} {rest} {rests} {label} {other} order tied is are long here =
    let whole : labels_order labels others ≡ ordering_then (labels_order rest rests) (label_order label other) =
    ap (λ l. labels_order l others) is ∙ ap (labels_order (label ∷ rest)) are ∙ order_front (label ∷ []) (other ∷ []) rest rests long
    ∙ ap (ordering_then (labels_order rest rests)) (order_one label other) in
    ap (λ o. ordering_then o tied) whole ∙ then_assoc (labels_order rest rests) (label_order label other) tied
    ∙ ap (ordering_then (labels_order rest rests)) (sym here)

pub no_labels : (labels : List (List ℕ)) → length labels ≡ 0 → labels ≡ []
no_labels [] none = refl
no_labels (label ∷ labels) none = absurd (omega arith)

order_some : (labels : List (List ℕ)) → 0 < length labels → labels_order labels [] ≡ Greater
order_some labels some =
    by_length (reverse (low labels)) (omega (arith, length_low labels))
  where
    by_length : (l : List (List ℕ)) → 0 < length l → slice_cmp (slice_cmp nat_cmp) l [] ≡ Greater
    by_length [] none = absurd (omega arith)
    by_length (first ∷ l) more = refl

order_less : (labels : List (List ℕ)) → 0 < length labels → labels_order [] labels ≡ Less
order_less labels some =
    by_length (reverse (low labels)) (omega (arith, length_low labels))
  where
    by_length : (l : List (List ℕ)) → 0 < length l → slice_cmp (slice_cmp nat_cmp) [] l ≡ Less
    by_length [] none = absurd (omega arith)
    by_length (first ∷ l) more = refl

-- if one side has more labels than the other, its last ones are compared first, as many as the other has
pub order_ends : (front others rest rests : List (List ℕ)) → length rest ≡ length rests → (length front ≡ 0) ⊎ (length others ≡ 0)
    → labels_order (front ++ rest) (others ++ rests)
    ≡ ordering_then (labels_order rest rests) (nat_cmp (length (front ++ rest)) (length (others ++ rests)))
order_ends front others rest rests long one =
    order_front front others rest rests long ∙ ap (ordering_then (labels_order rest rests)) (by_case front others one)
  where
    by_case : (front others : List (List ℕ)) → (length front ≡ 0) ⊎ (length others ≡ 0)
        → labels_order front others ≡ nat_cmp (length (front ++ rest)) (length (others ++ rests))
    by_case [] [] any =
        nat_cmp_is (length rest) (length rests) Equal long
    by_case [] (other ∷ others) any =
        order_less (other ∷ others) (omega arith)
        ∙ nat_cmp_is (length rest) (length ((other ∷ others) ++ rests)) Less (omega (arith, length-append (other ∷ others) rests, long))
    by_case (label ∷ front) [] any =
        order_some (label ∷ front) (omega arith)
        ∙ nat_cmp_is (length ((label ∷ front) ++ rest)) (length rests) Greater (omega (arith, length-append (label ∷ front) rest, long))
    by_case (label ∷ front) (other ∷ others) (inl none) = absurd (omega arith)
    by_case (label ∷ front) (other ∷ others) (inr none) = absurd (omega arith)

end_left : (rest : List ℕ) (n m : ℕ) → length rest + n ≡ m → label_order [] rest ≡ nat_cmp n m
end_left [] n m is = nat_cmp_is n m Equal (omega arith)
end_left (octet ∷ rest) n m is = nat_cmp_is n m Less (omega arith)

end_right : (rest : List ℕ) (n m : ℕ) → length rest + m ≡ n → label_order rest [] ≡ nat_cmp n m
end_right [] n m is = nat_cmp_is n m Equal (omega arith)
end_right (octet ∷ rest) n m is = nat_cmp_is n m Greater (omega arith)

-- after the octets of the shorter label, the lengths decide
pub order_end : (octets others : List ℕ) (count : ℕ) → count ≤ length octets → count ≤ length others
    → (count ≡ length octets) ⊎ (count ≡ length others)
    → label_order (drop count octets) (drop count others) ≡ nat_cmp (length octets) (length others)
order_end octets others count within in_others (inl all) =
    ap (λ l. label_order l (drop count others)) (drop_all count octets (omega arith))
    ∙ end_left (drop count others) (length octets) (length others) (omega (arith, length-drop count others))
order_end octets others count within in_others (inr all) =
    ap (label_order (drop count octets)) (drop_all count others (omega arith))
    ∙ end_right (drop count octets) (length octets) (length others) (omega (arith, length-drop count octets))

-- the lesser of two numbers is one of them
pub count_end : (count a b : ℕ) → count ≡ min a b → (count ≤ a) × (count ≤ b) × ((count ≡ a) ⊎ (count ≡ b))
count_end count a b is =
    elim (leb a b) as (λ v. leb a b ≡ v → (count ≤ a) × (count ≤ b) × ((count ≡ a) ⊎ (count ≡ b))) [
      | true ↦ λ e. let less : a ≤ b = leb-true a b e in (omega arith, omega arith, inl (let c : count ≡ a = omega arith in c))
      | false ↦ λ e. let more : b < a = leb-false a b e in (omega arith, omega arith, inr (let c : count ≡ b = omega arith in c))
    ] refl

-- the last labels of one side, as many as the other side has
pub order_aligned : (name other labels others : List (List ℕ)) (result tied : Ordering) → labels ≡ drop (length name - length other) name
    → others ≡ drop (length other - length name) other → tied ≡ nat_cmp (length name) (length other)
    → result ≡ ordering_then (labels_order labels others) tied → result ≡ labels_order name other
order_aligned name other labels others result tied is are here made =
    let n = length name - length other in
    let m = length other - length name in
    let front = take n name in
    let front' = take m other in
    let whole : labels_order (front ++ drop n name) (front' ++ drop m other)
    ≡ ordering_then (labels_order (drop n name) (drop m other)) (nat_cmp (length (front ++ drop n name)) (length (front' ++ drop m other))) =
    order_ends front front' (drop n name) (drop m other) (omega (arith, length-drop n name, length-drop m other)) (one name other) in
    let P : List (List ℕ) → List (List ℕ) → Type 0 = λ a b. labels_order a b ≡ ordering_then (labels_order (drop n name) (drop m other)) (nat_cmp (length a) (length b)) in
    let there : P name other = subst₂ P (take-append-drop n name) (take-append-drop m other) whole in
    made ∙ ap (λ l. ordering_then (labels_order l others) tied) is ∙ ap (λ l. ordering_then (labels_order (drop n name) l) tied) are
    ∙ ap (ordering_then (labels_order (drop n name) (drop m other))) here ∙ sym there
  where
    one : (name other : List (List ℕ)) → (length (take (length name - length other) name) ≡ 0) ⊎ (length (take (length other - length name) other) ≡ 0)
    one name other =
        elim (leb (length name) (length other)) as (λ v. leb (length name) (length other) ≡ v → (length (take (length name - length other) name) ≡ 0) ⊎ (length (take (length other - length name) other) ≡ 0)) [
          | true ↦ λ e. inl (let less : length name ≤ length other = leb-true (length name) (length other) e in omega (arith, length-take (length name - length other) name))
          | false ↦ λ e. inr (let more : length other < length name = leb-false (length name) (length other) e in omega (arith, length-take (length other - length name) other))
        ] refl

-- both have the same number of labels
pub aligned : (name other labels others : List (List ℕ)) → labels ≡ drop (length name - length other) name
    → others ≡ drop (length other - length name) other → length labels ≡ length others
aligned name other labels others is are =
    omega (arith, ap (length {A = List ℕ}) is, ap (length {A = List ℕ}) are, length-drop (length name - length other) name, length-drop (length other - length name) other)
