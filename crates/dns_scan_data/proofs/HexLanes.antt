-- Vectors of hexadecimal digits, and their values lane by lane.
use Rattle.std.proofs.Common.{◌≡◌, ◌==◌, ◌+◌, ◌-◌, ◌*◌, ◌%◌, ◌^◌, ◌<◌, ◌&&◌, ◌||◌, inl, inr, zero, suc, ℕ, Bool, true, false, not, cond, List, [], ◌∷◌, ◌++◌, nat_lt, map, length, get_or, w8, Fits, refl, sym, ◌∙◌, ap, subst, arith}
use Rattle.std.specs.Char.{digit_value}
use Rattle.dns_scan_data.specs.AppendedHex.{IsHexDigit, SpellsPairs}
use Rattle.std.specs.List.{AllByRecursion}
use Rattle.std.specs.Bool.{IsTrue}
use Rattle.std.specs.Simd.Lanes.{Each1, mask_l}
use Rattle.std.proofs.lemmas.Bool.{and_parts, cases_lt}
use Rattle.std.proofs.lemmas.Bool.Decides.{nat_tests}
use Rattle.std.proofs.lemmas.Simd.{mask_l-mod}
use lib.Bits.{bit_or}
use lib.Lanes.{zip2, sel_l, top}
use lib.ListN.{replicate}

-- what a test says of every number below a bound
each_below : (ℕ → Bool) → ℕ → Bool
each_below test zero = true
each_below test (suc n) = test n && each_below test n

one_below : (test : ℕ → Bool) (n c : ℕ) → each_below test n ≡ true → c < n → test c ≡ true
unfolding each_below
one_below test zero c each less = absurd (omega (arith, less))
one_below test (suc n) c each less = elim (cases_lt c n) [
  | inl before ↦ one_below test n c (and_parts (test n) (each_below test n) each).1 before
  | inr after ↦
      let last : n ≡ c = omega (arith, less, after) in
      subst (λ (k : ℕ). test k ≡ true) last (and_parts (test n) (each_below test n) each).0
]

-- whether a lane is less than another, and a lane without another
abbrev less : ℕ → ℕ → Bool
less a b = top 7 (cond (nat_lt a b) 255 0)

abbrev back : ℕ → ℕ → ℕ
back a b = (a + (256 - b)) % 256

abbrev mark : ℕ → ℕ → ℕ
mark a b = cond (nat_lt a b) 255 0

-- one lane
abbrev lane_is : ℕ → Bool
lane_is c = top 7 (bit_or (bit_or (mark (back c 48) 10) (mark (back c 65) 6)) (mark (back c 97) 6))

abbrev lane_value : ℕ → ℕ
lane_value c = cond (less c 65) (back c 48) (cond (less c 97) (back c 55) (back c 87))

is_test : ℕ → Bool
is_test c = not (lane_is c) || nat_lt (digit_value c) 16

value_test : ℕ → Bool
value_test c = not (nat_lt (digit_value c) 16) || (lane_value c == digit_value c)

is_tests : each_below is_test 256 ≡ true
unfolding is_test each_below
is_tests = refl

value_tests : each_below value_test 256 ≡ true
unfolding value_test each_below
value_tests = refl

lane_digit : (c : ℕ) → c < 256 → lane_is c ≡ true → IsHexDigit c
unfolding is_test
lane_digit c small is =
    let tested : is_test c ≡ true = one_below is_test 256 c is_tests small in
    let yes = subst (λ (b : Bool). not b || nat_lt (digit_value c) 16 ≡ true) is tested in grind (arith, nat_tests, yes)

lane_ok : (c : ℕ) → c < 256 → IsHexDigit c → lane_value c ≡ digit_value c
unfolding value_test
lane_ok c small is =
    let tested : value_test c ≡ true = one_below value_test 256 c value_tests small in
    let yes : nat_lt (digit_value c) 16 ≡ true = grind (arith, nat_tests, is) in
    let same = subst (λ (b : Bool). not b || (lane_value c == digit_value c) ≡ true) yes tested in grind (arith, nat_tests, same)

-- the whole vectors, as the code makes them
abbrev backs : ℕ → ℕ → List ℕ → List ℕ
backs n by digits = zip2 back digits (replicate n by)

abbrev lesses : ℕ → ℕ → List ℕ → List ℕ
lesses n than lanes = zip2 mark lanes (replicate n than)

abbrev digit_marks : ℕ → List ℕ → List Bool
digit_marks n digits =
    map (top 7) (zip2 bit_or (zip2 bit_or (lesses n 10 (backs n 48 digits)) (lesses n 6 (backs n 65 digits))) (lesses n 6 (backs n 97 digits)))

abbrev lane_values : ℕ → List ℕ → List ℕ
lane_values n digits =
    sel_l (map (top 7) (lesses n 65 digits)) (backs n 48 digits)
    (sel_l (map (top 7) (lesses n 97 digits)) (backs n 55 digits) (backs n 87 digits))

length-marks : (digits : List ℕ) → length (digit_marks (length digits) digits) ≡ length digits
length-marks [] = refl
length-marks (digit ∷ digits) = let behind = length-marks digits in omega (arith, behind)

-- a mask of ones alone
abbrev full : ℕ → ℕ
full n = mask_l (replicate n true)

ones : (mark : Bool) (marks : List Bool) (n : ℕ) → mask_l (mark ∷ marks) ≡ 1 + 2 * full n → (mark ≡ true) × (mask_l marks ≡ full n)
ones true marks n is = (refl, omega (arith, is))
ones false marks n is = absurd (omega (arith, is))

all_digits : (digits : List ℕ) → Each1 (Fits w8) digits → mask_l (digit_marks (length digits) digits) ≡ full (length digits)
    → AllByRecursion IsHexDigit digits
all_digits [] fits is = tt
all_digits (digit ∷ digits) fits is =
    let marked = ones (lane_is digit) (digit_marks (length digits) digits) (length digits) is in
    (lane_digit digit fits.0.fits marked.0, all_digits digits fits.1 marked.1)

all_values : (digits : List ℕ) → Each1 (Fits w8) digits → AllByRecursion IsHexDigit digits → lane_values (length digits) digits ≡ map digit_value digits
all_values [] fits are = refl
all_values (digit ∷ digits) fits are =
    let one = lane_ok digit fits.0.fits are.0 in
    let behind = all_values digits fits.1 are.1 in λ i. one i ∷ behind i

-- the same of sixteen lanes
pub sixteen_digits : (digits : List ℕ) → length digits ≡ 16 → Each1 (Fits w8) digits → mask_l (digit_marks 16 digits) % 2 ^ 64 ≡ 65535
    → AllByRecursion IsHexDigit digits
sixteen_digits digits long fits is =
    let count : length (digit_marks 16 digits) ≡ length digits =
    subst (λ (n : ℕ). length (digit_marks n digits) ≡ length digits) long (length-marks digits) in
    let whole : mask_l (digit_marks 16 digits) ≡ 65535 = sym (mask_l-mod (digit_marks 16 digits) 64 (omega (arith, count, long))) ∙ is in
    all_digits digits fits (subst (λ (n : ℕ). mask_l (digit_marks n digits) ≡ full n) (sym long) whole)

pub sixteen_marked : (digits : List ℕ) → length digits ≡ 16 → Each1 (Fits w8) digits
    → IsTrue (mask_l (digit_marks 16 digits) % 2 ^ 64 == 65535) → AllByRecursion IsHexDigit digits
sixteen_marked digits long fits is = sixteen_digits digits long fits (grind (arith, nat_tests, is))

pub sixteen_values : (digits : List ℕ) → length digits ≡ 16 → Each1 (Fits w8) digits → AllByRecursion IsHexDigit digits
    → lane_values 16 digits ≡ map digit_value digits
sixteen_values digits long fits are = subst (λ (n : ℕ). lane_values n digits ≡ map digit_value digits) long (all_values digits fits are)

-- the values are joined in octets
abbrev pairs_of : List ℕ → List ℕ
pairs_of [] = []
pairs_of (_ ∷ []) = []
pairs_of (high ∷ low ∷ values) = (high * 16 % 256 + low) % 256 ∷ pairs_of values

abbrev is_even : ℕ → Bool
is_even zero = true
is_even (suc zero) = false
is_even (suc (suc n)) = is_even n

pairs_spell : (digits : List ℕ) → AllByRecursion IsHexDigit digits → is_even (length digits) ≡ true → SpellsPairs digits (pairs_of (map digit_value digits))
pairs_spell [] are even = refl
pairs_spell (_ ∷ []) are even = absurd cc
pairs_spell (high ∷ low ∷ digits) are even =
    let same : (digit_value high * 16 % 256 + digit_value low) % 256 ≡ 16 * digit_value high + digit_value low = omega (arith, are.0, are.1.0) in
    (pairs_of (map digit_value digits), are.0, are.1.0, ap (λ (n : ℕ). n ∷ pairs_of (map digit_value digits)) same, pairs_spell digits are.1.1 even)

-- the octets of sixteen values, as the code picks them
abbrev pub picked : List ℕ → List ℕ
picked v =
    let at : ℕ → ℕ → ℕ = λ k j. (get_or (v ++ v) k 0 * 16 % 256 + get_or (v ++ v) j 0) % 256 in
    at 0 1 ∷ at 2 3 ∷ at 4 5 ∷ at 6 7 ∷ at 8 9 ∷ at 10 11 ∷ at 12 13 ∷ at 14 15 ∷ []

pub sixteen_spell : (digits : List ℕ) → length digits ≡ 16 → AllByRecursion IsHexDigit digits → SpellsPairs digits (picked (map digit_value digits))
sixteen_spell [] long are = absurd (omega (arith, long))
sixteen_spell (a ∷ []) long are = absurd (omega (arith, long))
sixteen_spell (a ∷ b ∷ []) long are = absurd (omega (arith, long))
sixteen_spell (a ∷ b ∷ c ∷ []) long are = absurd (omega (arith, long))
sixteen_spell (a ∷ b ∷ c ∷ d ∷ []) long are = absurd (omega (arith, long))
sixteen_spell (a ∷ b ∷ c ∷ d ∷ e ∷ []) long are = absurd (omega (arith, long))
sixteen_spell (a ∷ b ∷ c ∷ d ∷ e ∷ f ∷ []) long are = absurd (omega (arith, long))
sixteen_spell (a ∷ b ∷ c ∷ d ∷ e ∷ f ∷ g ∷ []) long are = absurd (omega (arith, long))
sixteen_spell (a ∷ b ∷ c ∷ d ∷ e ∷ f ∷ g ∷ h ∷ []) long are = absurd (omega (arith, long))
sixteen_spell (a ∷ b ∷ c ∷ d ∷ e ∷ f ∷ g ∷ h ∷ i ∷ []) long are = absurd (omega (arith, long))
sixteen_spell (a ∷ b ∷ c ∷ d ∷ e ∷ f ∷ g ∷ h ∷ i ∷ j ∷ []) long are = absurd (omega (arith, long))
sixteen_spell (a ∷ b ∷ c ∷ d ∷ e ∷ f ∷ g ∷ h ∷ i ∷ j ∷ k ∷ []) long are = absurd (omega (arith, long))
sixteen_spell (a ∷ b ∷ c ∷ d ∷ e ∷ f ∷ g ∷ h ∷ i ∷ j ∷ k ∷ l ∷ []) long are = absurd (omega (arith, long))
sixteen_spell (a ∷ b ∷ c ∷ d ∷ e ∷ f ∷ g ∷ h ∷ i ∷ j ∷ k ∷ l ∷ m ∷ []) long are = absurd (omega (arith, long))
sixteen_spell (a ∷ b ∷ c ∷ d ∷ e ∷ f ∷ g ∷ h ∷ i ∷ j ∷ k ∷ l ∷ m ∷ n ∷ []) long are = absurd (omega (arith, long))
sixteen_spell (a ∷ b ∷ c ∷ d ∷ e ∷ f ∷ g ∷ h ∷ i ∷ j ∷ k ∷ l ∷ m ∷ n ∷ o ∷ []) long are = absurd (omega (arith, long))
sixteen_spell (a ∷ b ∷ c ∷ d ∷ e ∷ f ∷ g ∷ h ∷ i ∷ j ∷ k ∷ l ∷ m ∷ n ∷ o ∷ p ∷ []) long are =
    pairs_spell (a ∷ b ∷ c ∷ d ∷ e ∷ f ∷ g ∷ h ∷ i ∷ j ∷ k ∷ l ∷ m ∷ n ∷ o ∷ p ∷ []) are refl
sixteen_spell (a ∷ b ∷ c ∷ d ∷ e ∷ f ∷ g ∷ h ∷ i ∷ j ∷ k ∷ l ∷ m ∷ n ∷ o ∷ p ∷ q ∷ more) long are = absurd (omega (arith, long))
