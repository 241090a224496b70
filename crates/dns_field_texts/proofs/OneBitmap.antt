-- Bitmaps with the same types are the same octets.
use Rattle.std.proofs.Common.{◌≡◌, ◌≤◌, ◌<◌, ◌+◌, ◌*◌, ◌-◌, ◌^◌, ◌↔◌, ℕ, zero, suc, List, [], ◌∷◌, ◌++◌, length, slice_index, arith, refl, sym, subst, ap, inl, inr, ⊎_elim, ◌∙◌}
use Rattle.std.specs.List.{flat_map, AllByRecursion, Contains}
use Rattle.dns_label.specs.Octets.{AreOctets}
use Rattle.dns_scan.specs.Bits.{bits, all_bits, number_of}
use Rattle.dns_scan.proofs.BitLists.{IsBit, bits_are, number-bits}
use Rattle.dns_field_texts.specs.TypeBitmap.{Window, window_octets, IsWindow, AreWindows, IsTypeBitmap, ones_from, window_types, types_in}
use Rattle.dns_field_texts.proofs.TypeBits.{In, in_from, in_to, ones_append, length-8}
use Rattle.dns_field_texts.proofs.TypeWindows.{types_of}
use Rattle.dns_field_texts.proofs.PrintedTypes.{in_append, in_left, in_right, ones_within, window_within, windows_from}

-- each element of the first list is one of the second
abbrev AllIn : List ℕ → List ℕ → Type 0
AllIn xs ys = (t : ℕ) → In xs t → In ys t

-- bits with the same ones are the same
ones_zero : (first : ℕ) (xs : List ℕ) → ones_from first (0 ∷ xs) ≡ ones_from (first + 1) xs
ones_zero first xs = refl

ones_one : (first : ℕ) (xs : List ℕ) → ones_from first (1 ∷ xs) ≡ first ∷ ones_from (first + 1) xs
ones_one first xs = refl

rest_in : (first : ℕ) (xs ys : List ℕ) → AllIn (first ∷ ones_from (first + 1) xs) (first ∷ ones_from (first + 1) ys)
    → AllIn (ones_from (first + 1) xs) (ones_from (first + 1) ys)
rest_in first xs ys all t has =
    ⊎_elim (λ e. let a = (ones_within (first + 1) xs t has).from in absurd (omega (arith, a, e))) (λ h. h) (all t (inr has))

not_both : (first : ℕ) (xs ys : List ℕ) → AllIn (first ∷ ones_from (first + 1) xs) (ones_from (first + 1) ys) → ⊥
not_both first xs ys all = let a = (ones_within (first + 1) ys first (all first (inl refl))).from in omega (arith, a)

bits_one : (first : ℕ) (xs ys : List ℕ) → AllByRecursion IsBit xs → AllByRecursion IsBit ys → length xs ≡ length ys
    → AllIn (ones_from first xs) (ones_from first ys) → AllIn (ones_from first ys) (ones_from first xs) → xs ≡ ys
bits_one first [] [] are also long there back = refl
bits_one first [] (y ∷ ys) are also long there back = absurd (omega arith)
bits_one first (x ∷ xs) [] are also long there back = absurd (omega arith)
bits_one first (zero ∷ xs) (zero ∷ ys) are also long there back =
    ap (λ (l : List ℕ). 0 ∷ l) (bits_one (first + 1) xs ys are.1 also.1 (omega arith) there back)
bits_one first (zero ∷ xs) (suc zero ∷ ys) are also long there back = absurd (not_both first ys xs back)
bits_one first (zero ∷ xs) (suc (suc y) ∷ ys) are also long there back = let h = also.0 in absurd (omega (arith, h))
bits_one first (suc zero ∷ xs) (zero ∷ ys) are also long there back = absurd (not_both first xs ys there)
bits_one first (suc zero ∷ xs) (suc zero ∷ ys) are also long there back =
    ap (λ (l : List ℕ). 1 ∷ l)
    (bits_one (first + 1) xs ys are.1 also.1 (omega arith) (rest_in first xs ys there) (rest_in first ys xs back))
bits_one first (suc zero ∷ xs) (suc (suc y) ∷ ys) are also long there back = let h = also.0 in absurd (omega (arith, h))
bits_one first (suc (suc x) ∷ xs) (y ∷ ys) are also long there back = let h = are.0 in absurd (omega (arith, h))

octet_one : (first x y : ℕ) → x < 2 ^ 8 → y < 2 ^ 8 → AllIn (ones_from first (bits 8 x)) (ones_from first (bits 8 y))
    → AllIn (ones_from first (bits 8 y)) (ones_from first (bits 8 x)) → x ≡ y
octet_one first x y small less there back =
    sym (number-bits 8 x small)
    ∙ ap number_of (bits_one first (bits 8 x) (bits 8 y) (bits_are 8 x) (bits_are 8 y) (length-8 x ∙ sym (length-8 y)) there back)
    ∙ number-bits 8 y less

-- the first octet of more, and the others
octets_apart : (first x : ℕ) (xs : List ℕ)
    → ones_from first (all_bits 8 (x ∷ xs)) ≡ ones_from first (bits 8 x) ++ ones_from (first + 8) (all_bits 8 xs)
octets_apart first x xs =
    ones_append first (bits 8 x) (all_bits 8 xs) ∙ ap (λ n. ones_from first (bits 8 x) ++ ones_from (first + n) (all_bits 8 xs)) (length-8 x)

front_in : (first x y : ℕ) (xs ys : List ℕ) → AllIn (ones_from first (all_bits 8 (x ∷ xs))) (ones_from first (all_bits 8 (y ∷ ys)))
    → AllIn (ones_from first (bits 8 x)) (ones_from first (bits 8 y))
front_in first x y xs ys all t has =
    let whole : In (ones_from first (all_bits 8 (x ∷ xs))) t =
    subst (λ (l : List ℕ). In l t) (sym (octets_apart first x xs)) (in_left (ones_from first (bits 8 x)) (ones_from (first + 8) (all_bits 8 xs)) t has) in
    let there : In (ones_from first (bits 8 y) ++ ones_from (first + 8) (all_bits 8 ys)) t =
    subst (λ (l : List ℕ). In l t) (octets_apart first y ys) (all t whole) in
    ⊎_elim (λ h. h)
    (λ h.
    let a = (ones_within first (bits 8 x) t has).below in
    let b = (ones_within (first + 8) (all_bits 8 ys) t h).from in
    let c = length-8 x in absurd (omega (arith, a, b, c)))
    (in_append (ones_from first (bits 8 y)) (ones_from (first + 8) (all_bits 8 ys)) t there)

back_in : (first x y : ℕ) (xs ys : List ℕ) → AllIn (ones_from first (all_bits 8 (x ∷ xs))) (ones_from first (all_bits 8 (y ∷ ys)))
    → AllIn (ones_from (first + 8) (all_bits 8 xs)) (ones_from (first + 8) (all_bits 8 ys))
back_in first x y xs ys all t has =
    let whole : In (ones_from first (all_bits 8 (x ∷ xs))) t =
    subst (λ (l : List ℕ). In l t) (sym (octets_apart first x xs)) (in_right (ones_from first (bits 8 x)) (ones_from (first + 8) (all_bits 8 xs)) t has) in
    let there : In (ones_from first (bits 8 y) ++ ones_from (first + 8) (all_bits 8 ys)) t =
    subst (λ (l : List ℕ). In l t) (octets_apart first y ys) (all t whole) in
    ⊎_elim
    (λ h.
    let a = (ones_within first (bits 8 y) t h).below in
    let b = (ones_within (first + 8) (all_bits 8 xs) t has).from in
    let c = length-8 y in absurd (omega (arith, a, b, c)))
    (λ h. h)
    (in_append (ones_from first (bits 8 y)) (ones_from (first + 8) (all_bits 8 ys)) t there)

-- the last octet, if there is one, is not zero
abbrev IsCut : List ℕ → Type 0
IsCut [] = Unit {0}
IsCut (x ∷ []) = x ≡ 0 → ⊥
IsCut (x ∷ y ∷ ys) = IsCut (y ∷ ys)

cut_rest : (x : ℕ) (xs : List ℕ) → IsCut (x ∷ xs) → IsCut xs
cut_rest x [] cut = tt
cut_rest x (y ∷ ys) cut = cut

cut_of : (xs : List ℕ) → (slice_index xs (length xs - 1) ≡ 0 → ⊥) → IsCut xs
cut_of [] last = tt
cut_of (x ∷ []) last = last
cut_of (x ∷ y ∷ ys) last =
    cut_of (y ∷ ys) (λ zero_last. last (let e : length (x ∷ y ∷ ys) - 1 ≡ suc (length (y ∷ ys) - 1) = omega arith in rw e zero_last))

-- zero has no one
no_ones : (first t : ℕ) → In (ones_from first (bits 8 0)) t → ⊥
unfolding bits
no_ones first t has = has

-- such octets have one
some_bit : (first x : ℕ) → x < 2 ^ 8 → (x ≡ 0 → ⊥) → (t : ℕ) × In (ones_from first (bits 8 x)) t
some_bit first x small some = by_ones (ones_from first (bits 8 x)) refl
  where
    by_ones : (ones : List ℕ) → ones_from first (bits 8 x) ≡ ones → (t : ℕ) × In (ones_from first (bits 8 x)) t
    by_ones [] is =
        absurd (some (octet_one first x 0 small (omega arith) (λ t has. absurd (subst (λ (l : List ℕ). In l t) is has)) (λ t has. absurd (no_ones first t has))))
    by_ones (t ∷ ones) is = (t, subst (λ (l : List ℕ). In l t) (sym is) (inl refl))

some_type : (first x : ℕ) (xs : List ℕ) → AreOctets (x ∷ xs) → IsCut (x ∷ xs) → (t : ℕ) × In (ones_from first (all_bits 8 (x ∷ xs))) t
some_type first x [] are cut =
    let one = some_bit first x are.0 cut in
    (one.0, subst (λ (l : List ℕ). In l one.0) (sym (octets_apart first x [])) (in_left (ones_from first (bits 8 x)) (ones_from (first + 8) (all_bits 8 [])) one.0 one.1))
some_type first x (y ∷ ys) are cut =
    let more = some_type (first + 8) y ys are.1 cut in (
      more.0,
      subst (λ (l : List ℕ). In l more.0) (sym (octets_apart first x (y ∷ ys)))
          (in_right (ones_from first (bits 8 x)) (ones_from (first + 8) (all_bits 8 (y ∷ ys))) more.0 more.1),
    )

-- octets with the same ones whose last are not zero are the same
octets_one : (first : ℕ) (xs ys : List ℕ) → AreOctets xs → AreOctets ys → IsCut xs → IsCut ys
    → AllIn (ones_from first (all_bits 8 xs)) (ones_from first (all_bits 8 ys))
    → AllIn (ones_from first (all_bits 8 ys)) (ones_from first (all_bits 8 xs)) → xs ≡ ys
octets_one first [] [] are also cut cuts there back = refl
octets_one first [] (y ∷ ys) are also cut cuts there back = let one = some_type first y ys also cuts in absurd (back one.0 one.1)
octets_one first (x ∷ xs) [] are also cut cuts there back = let one = some_type first x xs are cut in absurd (there one.0 one.1)
octets_one first (x ∷ xs) (y ∷ ys) are also cut cuts there back =
    let front : x ≡ y = octet_one first x y are.0 also.0 (front_in first x y xs ys there) (front_in first y x ys xs back) in
    let rest : xs ≡ ys = octets_one (first + 8) xs ys are.1 also.1 (cut_rest x xs cut) (cut_rest y ys cuts) (back_in first x y xs ys there)
    (back_in first y x ys xs back) in
    ap (λ n. n ∷ xs) front ∙ ap (λ (l : List ℕ). y ∷ l) rest

-- the octets of windows are octets
abbrev HaveOctets : List Window → Type 0
HaveOctets windows = AllByRecursion (λ window. AreOctets window.octets) windows

some_of : (window : Window) → IsWindow window → AreOctets window.octets → (t : ℕ) × In (window_types window) t
some_of window is are = by_octets window.octets is.some are (cut_of window.octets is.last)
  where
    by_octets : (octets : List ℕ) → 0 < length octets → AreOctets octets → IsCut octets → (t : ℕ) × In (ones_from (256 * window.number) (all_bits 8 octets)) t
    by_octets [] some are cut = absurd (omega (arith, some))
    by_octets (x ∷ xs) some are cut = some_type (256 * window.number) x xs are cut

-- no window comes before the first of windows with the same types
not_before : (v w : Window) (vs ws : List Window) → IsWindow v → AreOctets v.octets → AreWindows w.number (w ∷ ws)
    → AllIn (flat_map window_types (v ∷ vs)) (flat_map window_types (w ∷ ws)) → w.number ≤ v.number
not_before v w vs ws is are all there =
    let one = some_of v is are in
    let a = (window_within v is one.0 one.1).below in
    let b = (windows_from w.number (w ∷ ws) all one.0 (there one.0 (in_left (window_types v) (flat_map window_types vs) one.0 one.1))).from in
    omega (arith, a, b)

first_in : (v w : Window) (vs ws : List Window) → v.number ≡ w.number → IsWindow v → AreWindows (w.number + 1) ws
    → AllIn (flat_map window_types (v ∷ vs)) (flat_map window_types (w ∷ ws)) → AllIn (window_types v) (window_types w)
first_in v w vs ws same is all there t has =
    ⊎_elim (λ h. h)
    (λ h.
    let a = (window_within v is t has).below in
    let b = (windows_from (w.number + 1) ws all t h).from in absurd (omega (arith, a, b, same)))
    (in_append (window_types w) (flat_map window_types ws) t (there t (in_left (window_types v) (flat_map window_types vs) t has)))

others_in : (v w : Window) (vs ws : List Window) → v.number ≡ w.number → IsWindow w → AreWindows (v.number + 1) vs
    → AllIn (flat_map window_types (v ∷ vs)) (flat_map window_types (w ∷ ws)) → AllIn (flat_map window_types vs) (flat_map window_types ws)
others_in v w vs ws same is all there t has =
    ⊎_elim
    (λ h.
    let a = (window_within w is t h).below in
    let b = (windows_from (v.number + 1) vs all t has).from in absurd (omega (arith, a, b, same)))
    (λ h. h)
    (in_append (window_types w) (flat_map window_types ws) t (there t (in_right (window_types v) (flat_map window_types vs) t has)))

window_same : (m n : ℕ) (xs ys : List ℕ) → m ≡ n → xs ≡ ys
    → ◌≡◌ {A = Window} (record { number = m; octets = xs }) (record { number = n; octets = ys })
window_same m n xs ys numbers octets = cc

windows_one : (low : ℕ) (vs ws : List Window) → AreWindows low vs → AreWindows low ws → HaveOctets vs → HaveOctets ws
    → AllIn (flat_map window_types vs) (flat_map window_types ws) → AllIn (flat_map window_types ws) (flat_map window_types vs) → vs ≡ ws
windows_one low [] [] are also have has there back = refl
windows_one low [] (w ∷ ws) are also have has there back =
    let one = some_of w also.1 has.0 in absurd (back one.0 (in_left (window_types w) (flat_map window_types ws) one.0 one.1))
windows_one low (v ∷ vs) [] are also have has there back =
    let one = some_of v are.1 have.0 in absurd (there one.0 (in_left (window_types v) (flat_map window_types vs) one.0 one.1))
windows_one low (v ∷ vs) (w ∷ ws) are also have has there back =
    let below = not_before v w vs ws are.1 have.0 (omega arith, also.1, also.2) there in
    let above = not_before w v ws vs also.1 has.0 (omega arith, are.1, are.2) back in
    let same : v.number ≡ w.number = omega (arith, below, above) in
    let into = first_in v w vs ws same are.1 also.2 there in
    let onto = first_in w v ws vs (sym same) also.1 are.2 back in
    let moved : AllIn (window_types v) (ones_from (256 * v.number) (all_bits 8 w.octets)) =
    subst (λ n. AllIn (window_types v) (ones_from (256 * n) (all_bits 8 w.octets))) (sym same) into in
    let back_moved : AllIn (ones_from (256 * v.number) (all_bits 8 w.octets)) (window_types v) =
    subst (λ n. AllIn (ones_from (256 * n) (all_bits 8 w.octets)) (window_types v)) (sym same) onto in
    let octets : v.octets ≡ w.octets = octets_one (256 * v.number) v.octets w.octets have.0 has.0 (cut_of v.octets are.1.last) (cut_of w.octets also.1.last) moved
    back_moved in
    let also_rest : AreWindows (v.number + 1) ws = subst (λ n. AreWindows (n + 1) ws) (sym same) also.2 in
    let rest : vs ≡ ws = windows_one (v.number + 1) vs ws are.2 also_rest have.1 has.1 (others_in v w vs ws same also.1 are.2 there)
    (others_in w v ws vs (sym same) are.1 also.2 back) in
    let first : v ≡ w = window_same v.number w.number v.octets w.octets same octets in
    ap (λ (window : Window). window ∷ vs) first ∙ ap (λ (l : List Window). w ∷ l) rest

octets_split : (xs ys : List ℕ) → AreOctets (xs ++ ys) → AreOctets xs × AreOctets ys
octets_split [] ys are = (tt, are)
octets_split (x ∷ xs) ys are = let both = octets_split xs ys are.1 in ((are.0, both.0), both.1)

have_octets : (windows : List Window) → AreOctets (flat_map window_octets windows) → HaveOctets windows
have_octets [] are = tt
have_octets (window ∷ windows) are =
    let both = octets_split window.octets (flat_map window_octets windows) are.1.1 in (both.0, have_octets windows both.1)

types_are : (octets : List ℕ) (windows : List Window) → octets ≡ flat_map window_octets windows → types_in octets ≡ flat_map window_types windows
types_are octets windows is = ap types_in is ∙ types_of windows

pub one_bitmap : (a b : List ℕ) → IsTypeBitmap a → IsTypeBitmap b → AreOctets a → AreOctets b
    → ((t : ℕ) → Contains (types_in a) t ↔ Contains (types_in b) t) → a ≡ b
one_bitmap a b is also are octets same =
    let types_a = types_are a is.windows is.written in
    let types_b = types_are b also.windows also.written in
    let there : AllIn (flat_map window_types is.windows) (flat_map window_types also.windows) =
    λ t has. subst (λ (l : List ℕ). In l t) types_b (in_from (types_in b) t ((same t).0 (in_to (types_in a) t (subst (λ (l : List ℕ). In l t) (sym types_a) has)))) in
    let back : AllIn (flat_map window_types also.windows) (flat_map window_types is.windows) =
    λ t has. subst (λ (l : List ℕ). In l t) types_a (in_from (types_in a) t ((same t).1 (in_to (types_in b) t (subst (λ (l : List ℕ). In l t) (sym types_b) has)))) in
    let windows = windows_one 0 is.windows also.windows is.are also.are (have_octets is.windows (subst AreOctets is.written are))
    (have_octets also.windows (subst AreOctets also.written octets)) there back in
    is.written ∙ ap (λ (l : List Window). flat_map window_octets l) windows ∙ sym also.written
