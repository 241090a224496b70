-- Runs of octets of a kind, found a load at a time by the mask of the octets of no such kind.
use Rattle.std.proofs.Common.{◌≡◌, ℕ, ◌+◌, ◌-◌, ◌*◌, ◌/◌, ◌^◌, ◌<◌, ◌≤◌, Bool, true, false, not, cond, zero, suc, List, [], ◌∷◌, ◌++◌, map, length, drop, refl, sym, ap, ◌∙◌, arith}
use native.Mathlib.Nat.{pow-suc, mul_comm, zero-div, div-one, div-div-eq-div-mul}
use Rattle.std.proofs.lemmas.Simd.{chunk-drop, length-chunk, trailing_mask_l}
use Rattle.std.proofs.lemmas.List.{length-drop, drop-drop, take_all, append-nil}
use Rattle.std.proofs.lemmas.List.Sums.{prefix_len-le-length}
use Rattle.std.specs.List.{prefix_len}
use lib.Lanes.{chunk, mask_l}
use lib.Count.{count_trailing_zeros}

not-not : (b : Bool) → not (not b) ≡ b
not-not true = refl
not-not false = refl

all_on : (b : Bool) (mask before len behind : ℕ) → cond (not b) 1 0 + 2 * mask ≡ 0 → (mask ≡ 0 → before ≡ len + behind)
    → cond b (1 + before) 0 ≡ suc len + behind
all_on true mask before len behind none on = omega (arith, on (omega arith))
all_on false mask before len behind none on = absurd (omega arith)

same_stop : (b : Bool) (mask one other : ℕ) → 0 < cond (not b) 1 0 + 2 * mask → (0 < mask → one ≡ other)
    → cond b (1 + one) 0 ≡ cond b (1 + other) 0
same_stop true mask one other some same = ap (λ n. 1 + n) (same (omega arith))
same_stop false mask one other some same = refl

half : (b : Bool) (n : ℕ) → (cond b 1 0 + 2 * n) / 2 ≡ n
half true n = omega arith
half false n = omega arith

-- a mask without its lowest bits is that of the octets that follow
shifted : (test : ℕ → Bool) (octets : List ℕ) (count : ℕ) → mask_l (map test octets) / 2 ^ count ≡ mask_l (map test (drop count octets))
shifted test [] zero = div-one 0
shifted test [] (suc count) = zero-div (2 ^ suc count)
shifted test (octet ∷ octets) zero = div-one (mask_l (map test (octet ∷ octets)))
shifted test (octet ∷ octets) (suc count) =
    ap (λ n. mask_l (map test (octet ∷ octets)) / n) (pow-suc 2 count ∙ mul_comm (2 ^ count) 2)
    ∙ sym (div-div-eq-div-mul (mask_l (map test (octet ∷ octets))) 2 (2 ^ count))
    ∙ ap (λ n. n / 2 ^ count) (half (test octet) (mask_l (map test octets))) ∙ shifted test octets count

module _ (has : ℕ → Bool) where
  abbrev others : List ℕ → ℕ
  others octets = mask_l (map (λ octet. not (has octet)) octets)

  -- if all octets of the front are of the kind, the run goes on after it
  on : (front rest : List ℕ) → others front ≡ 0 → prefix_len has (front ++ rest) ≡ length front + prefix_len has rest
  on [] rest none = omega arith
  on (octet ∷ front) rest none =
      all_on (has octet) (others front) (prefix_len has (front ++ rest)) (length front) (prefix_len has rest) none (on front rest)

  -- if one is not, the run ends in the front
  within : (front rest : List ℕ) → 0 < others front → prefix_len has (front ++ rest) ≡ prefix_len has front
  within [] rest some = absurd (omega arith)
  within (octet ∷ front) rest some =
      same_stop (has octet) (others front) (prefix_len has (front ++ rest)) (prefix_len has front) some (within front rest)

  first_other : (octets : List ℕ) → length octets ≤ 64 → 0 < others octets → prefix_len has octets ≡ count_trailing_zeros 64 (others octets)
  first_other octets few some =
      ap (λ (test : ℕ → Bool). prefix_len test octets) (λ i octet. sym (not-not (has octet)) i)
      ∙ sym (trailing_mask_l (λ octet. not (has octet)) 64 octets few some)

  pub run_on : (text : List ℕ) (place count : ℕ) → place + count ≤ length text → others (chunk place count text) ≡ 0
      → prefix_len has (drop place text) ≡ count + prefix_len has (drop (place + count) text)
  run_on text place count room none =
      ap (prefix_len has) (chunk-drop place count text) ∙ on (chunk place count text) (drop (place + count) text) none
      ∙ ap (λ n. n + prefix_len has (drop (place + count) text)) (length-chunk place count text room)

  pub run_stops : (text : List ℕ) (place count : ℕ) → place + count ≤ length text → count ≤ 64 → 0 < others (chunk place count text)
      → prefix_len has (drop place text) ≡ count_trailing_zeros 64 (others (chunk place count text))
  run_stops text place count room few some =
      ap (prefix_len has) (chunk-drop place count text) ∙ within (chunk place count text) (drop (place + count) text) some
      ∙ first_other (chunk place count text) (omega (arith, length-chunk place count text room)) some

  -- the mask of the last octets, without the bits of those before the place
  pub last_mask : (text : List ℕ) (first place count : ℕ) → first + count ≡ length text → first ≤ place
      → others (chunk first count text) / 2 ^ (place - first) ≡ others (drop place text)
  last_mask text first place count is_last le =
      let all : chunk first count text ≡ drop first text =
      take_all count (drop first text) (omega (arith, length-drop first text)) in
      let back : first + (place - first) ≡ place = omega arith in
      shifted (λ octet. not (has octet)) (chunk first count text) (place - first)
      ∙ ap (λ octets. others (drop (place - first) octets)) all ∙ ap others (drop-drop (place - first) first text ∙ ap (λ n. drop n text) back)

  pub all_are : (octets : List ℕ) → others octets ≡ 0 → prefix_len has octets ≡ length octets
  all_are octets none = ap (prefix_len has) (sym (append-nil octets)) ∙ on octets [] none ∙ omega arith

  pub some_other : (octets : List ℕ) → length octets ≤ 64 → 0 < others octets → prefix_len has octets ≡ count_trailing_zeros 64 (others octets)
  some_other octets few some = first_other octets few some

  pub end_within : (text : List ℕ) (place : ℕ) → place ≤ length text → place + prefix_len has (drop place text) ≤ length text
  end_within text place le = omega (arith, prefix_len-le-length has (drop place text), length-drop place text)
