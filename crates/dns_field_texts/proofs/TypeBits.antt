-- Facts on the bits of types.
use Rattle.std.proofs.Common.{◌≡◌, ◌<◌, ◌+◌, ◌*◌, ◌/◌, ◌%◌, ◌^◌, ◌==◌, ◌&&◌, ◌⊎◌, ℕ, zero, suc, Bool, true, false, cond, List, [], ◌∷◌, ◌++◌, length, replicate, get_or, slice_set, slice_index_or, bit_or, arith, refl, sym, subst, ap, inl, inr, ⊎_elim, ◌∙◌, append_assoc, append-nil, length-append}
use Rattle.std.specs.List.{list_all, Contains}
use Rattle.std.specs.Str.{bytes_eq}
use Rattle.std.proofs.lemmas.Bool.Decides.{nat_tests, Decides-eqb}
use Rattle.std.proofs.lemmas.Slice.Eq.{bytes_eq-Decides}
use Rattle.dns_scan.specs.Bits.{bits, all_bits}
use Rattle.dns_scan.proofs.BitLists.{length-bits}
use Rattle.dns_field_texts.specs.TypeBitmap.{ones_from}
use Rattle.dns_field_texts.specs.Windows.{HasAlso}

-- the numbers below a limit
up_to : ℕ → List ℕ
up_to zero = []
up_to (suc n) = n ∷ up_to n

and_left : (a b : Bool) → (a && b) ≡ true → a ≡ true
and_left true b e = refl
and_left false b e = e

and_right : (a b : Bool) → (a && b) ≡ true → b ≡ true
and_right true b e = e
and_right false b e = cc

-- a test that all of them pass
below : (p : ℕ → Bool) (limit n : ℕ) → list_all p (up_to limit) ≡ true → n < limit → p n ≡ true
unfolding up_to
below p zero n all small = absurd (omega arith)
below p (suc limit) n all small =
    elim (n == limit) as (λ v. (n == limit) ≡ v → p n ≡ true) [
      | true ↦ (λ is. ap p ((Decides-eqb n limit).0 is) ∙ and_left _ _ all)
      | false ↦ (λ is. below p limit n (and_right _ _ all) (grind (arith, nat_tests)))
    ] refl

-- an octet with one bit set
sets : ℕ → ℕ → Bool
sets place octet = bytes_eq (bits 8 (bit_or octet (128 / 2 ^ place))) (slice_set (bits 8 octet) place 1)

all_0 : list_all (sets 0) (up_to 256) ≡ true
unfolding sets bits up_to
all_0 = refl

all_1 : list_all (sets 1) (up_to 256) ≡ true
unfolding sets bits up_to
all_1 = refl

all_2 : list_all (sets 2) (up_to 256) ≡ true
unfolding sets bits up_to
all_2 = refl

all_3 : list_all (sets 3) (up_to 256) ≡ true
unfolding sets bits up_to
all_3 = refl

all_4 : list_all (sets 4) (up_to 256) ≡ true
unfolding sets bits up_to
all_4 = refl

all_5 : list_all (sets 5) (up_to 256) ≡ true
unfolding sets bits up_to
all_5 = refl

all_6 : list_all (sets 6) (up_to 256) ≡ true
unfolding sets bits up_to
all_6 = refl

all_7 : list_all (sets 7) (up_to 256) ≡ true
unfolding sets bits up_to
all_7 = refl

each_place : (place : ℕ) → place < 8 → list_all (sets place) (up_to 256) ≡ true
each_place zero small = all_0
each_place (suc zero) small = all_1
each_place (suc (suc zero)) small = all_2
each_place (suc (suc (suc zero))) small = all_3
each_place (suc (suc (suc (suc zero)))) small = all_4
each_place (suc (suc (suc (suc (suc zero))))) small = all_5
each_place (suc (suc (suc (suc (suc (suc zero)))))) small = all_6
each_place (suc (suc (suc (suc (suc (suc (suc zero))))))) small = all_7
each_place (suc (suc (suc (suc (suc (suc (suc (suc place)))))))) small = absurd (omega arith)

pub bit_set : (octet place : ℕ) → octet < 256 → place < 8 → bits 8 (bit_or octet (128 / 2 ^ place)) ≡ slice_set (bits 8 octet) place 1
unfolding sets
bit_set octet place small within = (bytes_eq-Decides _ _).0 (below (sets place) 256 octet (each_place place within) small)

pub ruleset bit_rules = (bit_set)

-- the bits of octets of which one has another bit set
pub length-8 : (octet : ℕ) → length (bits 8 octet) ≡ 8
length-8 octet = length-bits 8 octet

set_left : (xs ys : List ℕ) (k y : ℕ) → k < length xs → slice_set (xs ++ ys) k y ≡ slice_set xs k y ++ ys
set_left [] ys k y within = absurd (omega arith)
set_left (x ∷ xs) ys zero y within = refl
set_left (x ∷ xs) ys (suc k) y within = ap (λ (l : List ℕ). x ∷ l) (set_left xs ys k y (omega arith))

set_right : (xs ys : List ℕ) (k y : ℕ) → slice_set (xs ++ ys) (length xs + k) y ≡ xs ++ slice_set ys k y
set_right [] ys k y = let e : 0 + k ≡ k = omega arith in rw e refl
set_right (x ∷ xs) ys k y =
    let e : suc (length xs) + k ≡ suc (length xs + k) = omega arith in
    rw e (ap (λ (l : List ℕ). x ∷ l) (set_right xs ys k y))

pub set_in_all : (octets : List ℕ) (index place octet : ℕ) → index < length octets → place < 8
    → bits 8 octet ≡ slice_set (bits 8 (get_or octets index 0)) place 1
    → all_bits 8 (slice_set octets index octet) ≡ slice_set (all_bits 8 octets) (8 * index + place) 1
set_in_all [] index place octet within small is = absurd (omega arith)
set_in_all (first ∷ octets) zero place octet within small is =
    let e : 8 * 0 + place ≡ place = omega arith in
    rw e (ap (λ (l : List ℕ). l ++ all_bits 8 octets) is
    ∙ sym (set_left (bits 8 first) (all_bits 8 octets) place 1 (let l = length-8 first in omega (arith, l))))
set_in_all (first ∷ octets) (suc index) place octet within small is =
    let e : 8 * suc index + place ≡ length (bits 8 first) + (8 * index + place) = (let l = length-8 first in omega (arith, l)) in
    rw e (ap (λ (l : List ℕ). bits 8 first ++ l) (set_in_all octets index place octet (omega arith) small is)
    ∙ sym (set_right (bits 8 first) (all_bits 8 octets) (8 * index + place) 1))

pub set_at_place : (octets : List ℕ) (place octet : ℕ) → place < 8 * length octets
    → bits 8 octet ≡ slice_set (bits 8 (get_or octets (place / 8) 0)) (place % 8) 1
    → all_bits 8 (slice_set octets (place / 8) octet) ≡ slice_set (all_bits 8 octets) place 1
set_at_place octets place octet within is =
    let e : 8 * (place / 8) + place % 8 ≡ place = omega arith in
    rw e at (set_in_all octets (place / 8) (place % 8) octet (omega arith) (omega arith) is)

pub ruleset set_rules = (set_at_place)

-- the ones of two lists of bits
pub ones_append : (first : ℕ) (xs ys : List ℕ) → ones_from first (xs ++ ys) ≡ ones_from first xs ++ ones_from (first + length xs) ys
ones_append first [] ys = let e : first + 0 ≡ first = omega arith in rw e refl
ones_append first (x ∷ xs) ys =
    let e : first + suc (length xs) ≡ first + 1 + length xs = omega arith in
    rw e (by_bit (x == 1) (ones_from (first + 1) (xs ++ ys)) (ones_from (first + 1) xs) (ones_from (first + 1 + length xs) ys) (ones_append (first + 1) xs ys))
  where
    by_bit : (one : Bool) (a b c : List ℕ) → a ≡ b ++ c → cond one (first ∷ a) a ≡ cond one (first ∷ b) b ++ c
    by_bit true a b c e = ap (λ (l : List ℕ). first ∷ l) e
    by_bit false a b c e = e

-- zeros are no types
pub zeros_are : (first count : ℕ) → ones_from first (all_bits 8 (replicate count 0)) ≡ []
unfolding bits
zeros_are first zero = refl
zeros_are first (suc count) = zeros_are (first + 1 + 1 + 1 + 1 + 1 + 1 + 1 + 1) count

pub all_bits-append : (xs ys : List ℕ) → all_bits 8 (xs ++ ys) ≡ all_bits 8 xs ++ all_bits 8 ys
all_bits-append [] ys = refl
all_bits-append (x ∷ xs) ys =
    ap (λ (l : List ℕ). bits 8 x ++ l) (all_bits-append xs ys) ∙ sym (append_assoc (bits 8 x) (all_bits 8 xs) (all_bits 8 ys))

pub length-all : (xs : List ℕ) → length (all_bits 8 xs) ≡ 8 * length xs
length-all [] = refl
length-all (x ∷ xs) =
    let a = length-8 x in let b = length-all xs in let c = length-append (bits 8 x) (all_bits 8 xs) in omega (arith, a, b, c)

pub types_append : (first : ℕ) (xs ys : List ℕ)
    → ones_from first (all_bits 8 (xs ++ ys)) ≡ ones_from first (all_bits 8 xs) ++ ones_from (first + 8 * length xs) (all_bits 8 ys)
types_append first xs ys =
    ap (ones_from first) (all_bits-append xs ys) ∙ ones_append first (all_bits 8 xs) (all_bits 8 ys)
    ∙ ap (λ n. ones_from first (all_bits 8 xs) ++ ones_from (first + n) (all_bits 8 ys)) (length-all xs)

pub types_zeros : (first : ℕ) (xs : List ℕ) (count : ℕ)
    → ones_from first (all_bits 8 (xs ++ replicate count 0)) ≡ ones_from first (all_bits 8 xs)
types_zeros first xs count =
    types_append first xs (replicate count 0) ∙ ap (λ (l : List ℕ). ones_from first (all_bits 8 xs) ++ l) (zeros_are _ count)
    ∙ append-nil (ones_from first (all_bits 8 xs))

-- the number is in the list
abbrev pub In : List ℕ → ℕ → Type 0
In [] number = ⊥
In (first ∷ numbers) number = (first ≡ number) ⊎ In numbers number

pub in_from : (numbers : List ℕ) (number : ℕ) → Contains numbers number → In numbers number
in_from numbers number has = by_index numbers has.0 has.1 has.2
  where
    by_index : (numbers : List ℕ) (k : ℕ) → k < length numbers → slice_index_or numbers k number ≡ number → In numbers number
    by_index [] k within is = absurd (omega arith)
    by_index (first ∷ numbers) zero within is = inl is
    by_index (first ∷ numbers) (suc k) within is = inr (by_index numbers k (omega arith) is)

pub in_to : (numbers : List ℕ) (number : ℕ) → In numbers number → Contains numbers number
in_to [] number is = absurd is
in_to (first ∷ numbers) number (inl is) = (0, omega arith, is)
in_to (first ∷ numbers) number (inr is) = let has = in_to numbers number is in let h = has.1 in (suc has.0, omega (arith, h), has.2)

-- a set bit is one type more
also_in : (first k : ℕ) (xs : List ℕ) (number : ℕ) → k < length xs → In (ones_from first (slice_set xs k 1)) number
    → In (ones_from first xs) number ⊎ (number ≡ first + k)
also_in first k [] number within is = absurd (omega arith)
also_in first zero (x ∷ xs) number within (inl is) = inr (omega (arith, is))
also_in first zero (x ∷ xs) number within (inr is) = inl (by_bit (x == 1))
  where
    by_bit : (one : Bool) → In (cond one (first ∷ ones_from (first + 1) xs) (ones_from (first + 1) xs)) number
    by_bit true = inr is
    by_bit false = is
also_in first (suc k) (x ∷ xs) number within is =
    by_bit (x == 1) (λ h. shift (also_in (first + 1) k xs number (omega arith) h)) is
  where
    shift : In (ones_from (first + 1) xs) number ⊎ (number ≡ first + 1 + k) → In (ones_from (first + 1) xs) number ⊎ (number ≡ first + suc k)
    shift (inl h) = inl h
    shift (inr h) = inr (omega (arith, h))

    by_bit : (one : Bool)
        → (In (ones_from (first + 1) (slice_set xs k 1)) number → In (ones_from (first + 1) xs) number ⊎ (number ≡ first + suc k))
        → In (cond one (first ∷ ones_from (first + 1) (slice_set xs k 1)) (ones_from (first + 1) (slice_set xs k 1))) number
        → In (cond one (first ∷ ones_from (first + 1) xs) (ones_from (first + 1) xs)) number ⊎ (number ≡ first + suc k)
    by_bit true later (inl is) = inl (inl is)
    by_bit true later (inr is) = ⊎_elim (λ h. inl (inr h)) (λ h. inr h) (later is)
    by_bit false later is = later is

in_also : (first k : ℕ) (xs : List ℕ) (number : ℕ) → k < length xs → In (ones_from first xs) number ⊎ (number ≡ first + k)
    → In (ones_from first (slice_set xs k 1)) number
in_also first k [] number within is = absurd (omega arith)
in_also first zero (x ∷ xs) number within (inl is) = by_bit (x == 1) is
  where
    by_bit : (one : Bool) → In (cond one (first ∷ ones_from (first + 1) xs) (ones_from (first + 1) xs)) number
        → In (first ∷ ones_from (first + 1) xs) number
    by_bit true is = is
    by_bit false is = inr is
in_also first zero (x ∷ xs) number within (inr is) = inl (omega (arith, is))
in_also first (suc k) (x ∷ xs) number within is =
    by_bit (x == 1) (λ h. in_also (first + 1) k xs number (omega arith) (shift h)) is
  where
    shift : In (ones_from (first + 1) xs) number ⊎ (number ≡ first + suc k) → In (ones_from (first + 1) xs) number ⊎ (number ≡ first + 1 + k)
    shift (inl h) = inl h
    shift (inr h) = inr (omega (arith, h))

    by_bit : (one : Bool)
        → (In (ones_from (first + 1) xs) number ⊎ (number ≡ first + suc k) → In (ones_from (first + 1) (slice_set xs k 1)) number)
        → In (cond one (first ∷ ones_from (first + 1) xs) (ones_from (first + 1) xs)) number ⊎ (number ≡ first + suc k)
        → In (cond one (first ∷ ones_from (first + 1) (slice_set xs k 1)) (ones_from (first + 1) (slice_set xs k 1))) number
    by_bit true later (inl (inl is)) = inl is
    by_bit true later (inl (inr is)) = inr (later (inl is))
    by_bit true later (inr is) = inr (later (inr is))
    by_bit false later is = later is

pub has_also : (old new rest : List ℕ) (count rtype : ℕ) → rtype < 8 * length rest → rest ≡ old ++ replicate count 0
    → all_bits 8 new ≡ slice_set (all_bits 8 rest) rtype 1
    → HasAlso (ones_from 0 (all_bits 8 old)) (ones_from 0 (all_bits 8 new)) rtype
has_also old new rest count rtype within filled set = λ other. (
  λ has. ⊎_elim (λ h. inl (in_to _ other h)) (λ h. inr (omega (arith, h)))
      (also_there other (in_from _ other has)),
  λ has. in_to _ other (there other (⊎_elim (λ h. inl (in_from _ other h)) (λ h. inr (omega (arith, h))) has)),
)
  where
    long : rtype < length (all_bits 8 rest)
    long = let l = length-all rest in omega (arith, l)

    same : ones_from 0 (all_bits 8 rest) ≡ ones_from 0 (all_bits 8 old)
    same = ap (λ (l : List ℕ). ones_from 0 (all_bits 8 l)) filled ∙ types_zeros 0 old count

    also_there : (other : ℕ) → In (ones_from 0 (all_bits 8 new)) other → In (ones_from 0 (all_bits 8 old)) other ⊎ (other ≡ 0 + rtype)
    also_there other has =
        subst (λ (l : List ℕ). In l other ⊎ (other ≡ 0 + rtype)) same
        (also_in 0 rtype (all_bits 8 rest) other long (subst (λ (l : List ℕ). In (ones_from 0 l) other) set has))

    there : (other : ℕ) → In (ones_from 0 (all_bits 8 old)) other ⊎ (other ≡ 0 + rtype) → In (ones_from 0 (all_bits 8 new)) other
    there other has =
        subst (λ (l : List ℕ). In (ones_from 0 l) other) (sym set)
        (in_also 0 rtype (all_bits 8 rest) other long (subst (λ (l : List ℕ). In l other ⊎ (other ≡ 0 + rtype)) (sym same) has))

-- zeros at the end
pub zeros_more : (count : ℕ) → ◌++◌ {A = ℕ} (replicate count 0) (0 ∷ []) ≡ replicate (suc count) 0
zeros_more zero = refl
zeros_more (suc count) = ap (λ (l : List ℕ). 0 ∷ l) (zeros_more count)
