-- The types of a bitmap, one after another.
use Rattle.std.proofs.Common.{◌↔◌, IsTrue, slice_index, rules, ◌≡◌, ◌≤◌, ◌<◌, ◌+◌, ◌*◌, ◌-◌, ◌/◌, ◌%◌, ◌^◌, ◌==◌, ℕ, zero, suc, true, false, cond, List, [], ◌∷◌, ◌++◌, length, drop, get_or, arith, refl, sym, ap, ◌∙◌}
use Rattle.std.specs.List.{flat_map}
use Rattle.std.proofs.Math.Nat.{pow-suc, div-div-eq-div-mul}
use Rattle.std.proofs.lemmas.Bool.Decides.{nat_tests}
use Rattle.std.proofs.lemmas.List.{drop_all, drop_more, get_or_append_left, get_or_past, get_or_at, get_or-append-add}
use Rattle.dns_scan.specs.Bits.{bits, all_bits}
use Rattle.dns_scan.proofs.BitLists.{length-bits}
use Rattle.dns_field_texts.specs.TypeBitmap.{Window, window_octets, IsBitmapFrom, ones_from, window_types, types_in}
use Rattle.dns_field_texts.specs.Windows.{AreTypesLeft, BeginsWithWindow, types_behind}
use Rattle.dns_field_texts.proofs.TypeBits.{length-8, length-all}
use Rattle.dns_field_texts.proofs.TypeWindows.{bitmap_end, bitmap_uncons, types_of, uncons}

-- the bit of a number at a place
half_pow : (number count : ℕ) → number / 2 / 2 ^ count ≡ number / 2 ^ suc count
half_pow number count = div-div-eq-div-mul number 2 (2 ^ count) ∙ ap (λ n. number / n) (omega (arith, pow-suc 2 count))

bit_in : (count number place : ℕ) → place < count → get_or (bits count number) place 0 ≡ number / 2 ^ (count - 1 - place) % 2
unfolding bits
bit_in zero number place within = absurd (omega arith)
bit_in (suc count) number place within =
    elim (place == count) as (λ v. (place == count) ≡ v → get_or (bits count (number / 2) ++ (number % 2) ∷ []) place 0 ≡ number / 2 ^ (suc count - 1 - place) % 2) [
      | true ↦ (λ is.
          let at : place ≡ count = grind (arith, nat_tests) in
          let none : suc count - 1 - place ≡ 0 = omega (arith, at) in
          let whole : number / 2 ^ 0 ≡ number = omega arith in
          get_or_at (bits count (number / 2)) (number % 2) [] 0 place (length-bits count (number / 2) ∙ sym at)
          ∙ sym (ap (λ k. number / 2 ^ k % 2) none ∙ ap (λ n. n % 2) whole))
      | false ↦ (λ is.
          let below : place < count = grind (arith, nat_tests) in
          let one : suc count - 1 - place ≡ suc (count - 1 - place) = omega (arith, below) in
          get_or_append_left (bits count (number / 2)) ((number % 2) ∷ []) 0 place (let l = length-bits count (number / 2) in omega (arith, l, below))
          ∙ bit_in count (number / 2) place below
          ∙ ap (λ n. n % 2) (half_pow number (count - 1 - place) ∙ ap (λ k. number / 2 ^ k) (sym one)))
    ] refl

-- the bit of octets at a place
bit_by : (octets : List ℕ) (index place : ℕ) → index < length octets → place < 8
    → get_or (all_bits 8 octets) (8 * index + place) 0 ≡ get_or octets index 0 / 2 ^ (7 - place) % 2
bit_by [] index place within small = absurd (omega arith)
bit_by (octet ∷ octets) zero place within small =
    let e : 8 * 0 + place ≡ place = omega arith in
    ap (λ k. get_or (all_bits 8 (octet ∷ octets)) k 0) e
    ∙ get_or_append_left (bits 8 octet) (all_bits 8 octets) 0 place (let l = length-8 octet in omega (arith, l))
    ∙ bit_in 8 octet place small
bit_by (octet ∷ octets) (suc index) place within small =
    let e : 8 * suc index + place ≡ length (bits 8 octet) + (8 * index + place) = (let l = length-8 octet in omega (arith, l)) in
    ap (λ k. get_or (all_bits 8 (octet ∷ octets)) k 0) e
    ∙ get_or-append-add (bits 8 octet) (all_bits 8 octets) (8 * index + place) 0
    ∙ bit_by octets index place (omega arith) small

pub bit_at : (octets : List ℕ) (place : ℕ) → place / 8 < length octets
    → get_or (all_bits 8 octets) place 0 ≡ get_or octets (place / 8) 0 / 2 ^ (7 - place % 8) % 2
bit_at octets place within =
    let e : 8 * (place / 8) + place % 8 ≡ place = omega arith in
    ap (λ k. get_or (all_bits 8 octets) k 0) (sym e) ∙ bit_by octets (place / 8) (place % 8) within (omega arith)

is_so : (n : ℕ) → IsTrue (n == 1) → n ≡ 1
is_so n is = search rules

so_is : (n : ℕ) → n ≡ 1 → IsTrue (n == 1)
so_is n is = search rules

-- what the bit of an octet says
pub bit_told : (octets : List ℕ) (place octet : ℕ) → place / 8 < length octets → get_or octets (place / 8) 0 ≡ octet
    → IsTrue (octet / 2 ^ (7 - place % 8) % 2 == 1) ↔ (slice_index (all_bits 8 octets) place ≡ 1)
bit_told octets place octet within is =
    let same : slice_index (all_bits 8 octets) place ≡ octet / 2 ^ (7 - place % 8) % 2 =
    bit_at octets place within ∙ ap (λ n. n / 2 ^ (7 - place % 8) % 2) is in
    (λ yes. same ∙ is_so (octet / 2 ^ (7 - place % 8) % 2) yes, λ one. so_is (octet / 2 ^ (7 - place % 8) % 2) (sym same ∙ one))

pub no_bit : (octets : List ℕ) (place : ℕ) → length octets ≤ place / 8 → slice_index (all_bits 8 octets) place ≡ 1 → ⊥
no_bit octets place past one =
    let none = get_or_past (all_bits 8 octets) place 0 (let l = length-all octets in omega (arith, l, past)) in
    omega (arith, none, one)

-- the types from a place on
zero_from : (first : ℕ) (bit : ℕ) (rest : List ℕ) → (bit ≡ 1 → ⊥) → ones_from first (bit ∷ rest) ≡ ones_from (first + 1) rest
zero_from first bit rest other =
    elim (bit == 1) as (λ v. (bit == 1) ≡ v → cond v (first ∷ ones_from (first + 1) rest) (ones_from (first + 1) rest) ≡ ones_from (first + 1) rest) [
      | true ↦ (λ is. absurd (other (grind (arith, nat_tests))))
      | false ↦ (λ is. refl)
    ] refl

one_from : (first : ℕ) (bit : ℕ) (rest : List ℕ) → bit ≡ 1 → ones_from first (bit ∷ rest) ≡ first ∷ ones_from (first + 1) rest
one_from first bit rest is = ap (λ b. ones_from first (b ∷ rest)) is

step_on : (first at : ℕ) (rest : List ℕ) → ones_from (first + at + 1) rest ≡ ones_from (first + (at + 1)) rest
step_on first at rest = let e : first + at + 1 ≡ first + (at + 1) = omega arith in ap (λ n. ones_from n rest) e

within_all : (window : List ℕ) (at : ℕ) → at < 8 * length window → at < length (all_bits 8 window)
within_all window at within = let l = length-all window in omega (arith, l, within)

pub not_there : (first : ℕ) (window : List ℕ) (at : ℕ) → at < 8 * length window → (get_or (all_bits 8 window) at 0 ≡ 1 → ⊥)
    → types_behind first window at ≡ types_behind first window (at + 1)
not_there first window at within other =
    ap (ones_from (first + at)) (drop_more (all_bits 8 window) at 0 (within_all window at within))
    ∙ zero_from (first + at) (get_or (all_bits 8 window) at 0) (drop (at + 1) (all_bits 8 window)) other
    ∙ step_on first at (drop (at + 1) (all_bits 8 window))

pub is_there : (first : ℕ) (window : List ℕ) (at : ℕ) → at < 8 * length window → get_or (all_bits 8 window) at 0 ≡ 1
    → types_behind first window at ≡ (first + at) ∷ types_behind first window (at + 1)
is_there first window at within is =
    ap (ones_from (first + at)) (drop_more (all_bits 8 window) at 0 (within_all window at within))
    ∙ one_from (first + at) (get_or (all_bits 8 window) at 0) (drop (at + 1) (all_bits 8 window)) is
    ∙ ap (λ (l : List ℕ). (first + at) ∷ l) (step_on first at (drop (at + 1) (all_bits 8 window)))

pub none_there : (first : ℕ) (window : List ℕ) (at : ℕ) → 8 * length window ≤ at → types_behind first window at ≡ []
none_there first window at past =
    ap (ones_from (first + at)) (drop_all at (all_bits 8 window) (let l = length-all window in omega (arith, l, past)))

-- the types of the first window, and those behind it
pub types_first : (low number : ℕ) (octets window behind : List ℕ) → BeginsWithWindow octets number window behind → IsBitmapFrom low octets
    → types_in octets ≡ types_behind (256 * number) window 0 ++ types_in behind
types_first low number octets window behind begins is =
    let parts = uncons low number octets window behind begins is.windows is.are is.written in
    let whole : octets ≡ flat_map window_octets (parts.first ∷ parts.rest) =
    is.written ∙ ap (λ (l : List Window). flat_map window_octets l) parts.are_all in
    let start : 256 * parts.first.number ≡ 256 * number + 0 = (let n = parts.number_is in omega (arith, n)) in
    ap types_in whole ∙ types_of (parts.first ∷ parts.rest)
    ∙ (λ i. ones_from (start i) (all_bits 8 (parts.octets_are i)) ++ flat_map window_types parts.rest)
    ∙ ap (λ (l : List ℕ). types_behind (256 * number) window 0 ++ l) (sym (ap types_in parts.behind_is ∙ types_of parts.rest))

pub types_none : (low : ℕ) (octets : List ℕ) → IsBitmapFrom low octets
    → ((number : ℕ) (window behind : List ℕ) → BeginsWithWindow octets number window behind → ⊥) → types_in octets ≡ []
types_none low octets is none = ap types_in (bitmap_end low octets is none) ∙ types_of []

-- the types that are left: those of the window, and those behind it
pub record Left (whole : List ℕ) (first : ℕ) (window : List ℕ) (place : ℕ) (left : List ℕ) : Type 0 where
  pub are : AreTypesLeft first window left
  pub same : whole ≡ types_behind first window place ++ types_in left

pub left_on : {whole : List ℕ} {first : ℕ} {window : List ℕ} {place : ℕ} {left : List ℕ} (number : ℕ) (octets behind : List ℕ)
    → Left whole first window place left → ((start : ℕ) → types_behind start window place ≡ []) → BeginsWithWindow left number octets behind
    → Left whole (256 * number) octets 0 behind
left_on {whole} {first} {window} {place} {left} number octets behind is none begins =
    let follows = bitmap_uncons is.are.low number left octets behind begins is.are.behind in
    let small = begins.small in
    record {
      are = record { small = omega (arith, small); few = follows.are.few; low = number + 1; behind = follows.rest };
      same = is.same ∙ ap (λ (l : List ℕ). l ++ types_in left) (none first)
          ∙ types_first is.are.low number left octets behind begins is.are.behind;
    }

pub left_none : {whole : List ℕ} {first : ℕ} {window : List ℕ} {place : ℕ} {left : List ℕ} → Left whole first window place left
    → ((start : ℕ) → types_behind start window place ≡ [])
    → ((number : ℕ) (window behind : List ℕ) → BeginsWithWindow left number window behind → ⊥) → whole ≡ []
left_none {whole} {first} {window} {place} {left} is none ended =
    is.same ∙ (λ i. none first i ++ types_none is.are.low left is.are.behind ended i)

pub left_first : {whole : List ℕ} {first : ℕ} {window : List ℕ} {place : ℕ} {left : List ℕ} (found : ℕ) → Left whole first window place left
    → ((start : ℕ) → types_behind start window place ≡ (start + found) ∷ types_behind start window (found + 1))
    → whole ≡ (first + found) ∷ (types_behind first window (found + 1) ++ types_in left)
left_first {first = first} {left = left} found is some = is.same ∙ ap (λ (l : List ℕ). l ++ types_in left) (some first)
