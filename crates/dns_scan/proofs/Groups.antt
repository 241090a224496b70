-- Bits in groups.
use Rattle.std.proofs.Common.{◌≡◌, ◌≢◌, ℕ, ◌+◌, ◌-◌, ◌<◌, ◌==◌, ◌^◌, zero, suc, true, false, List, [], ◌∷◌, ◌++◌, length, map, replicate, refl, sym, ◌∙◌, ap, arith, append_assoc, append-nil, length-append}
use Rattle.std.proofs.lemmas.Bool.Decides.{nat_tests}
use Rattle.std.proofs.lemmas.List.{replicate_more}
use Rattle.dns_scan.specs.Bits.{bits, grouped, padded_number, numbers_of, number_of}
use Rattle.dns_scan.proofs.BitLists.{length-bits, number-bits}

pub eq_same : (a b : ℕ) → a ≡ b → (a == b) ≡ true
eq_same a b same = grind (arith, nat_tests)

pub eq_differs : (a b : ℕ) → a ≢ b → (a == b) ≡ false
eq_differs a b other = grind (arith, nat_tests)

-- a whole group first
pub grouped-whole : (count : ℕ) (held front rest : List ℕ) → length held + length front ≡ count → 0 < length front
    → grouped count held (front ++ rest) ≡ (held ++ front) ∷ grouped count [] rest
grouped-whole count held [] rest whole some = absurd (omega arith)
grouped-whole count held (bit ∷ []) rest whole some = rw (eq_same (length held + 1) count (omega arith)) refl
grouped-whole count held (bit ∷ next ∷ front) rest whole some =
    rw (eq_differs (length held + 1) count (omega arith))
    (grouped-whole count (held ++ bit ∷ []) (next ∷ front) rest (omega (arith, length-append held (bit ∷ []))) (omega arith)
    ∙ ap (λ l. l ∷ grouped count [] rest) (append_assoc held (bit ∷ []) (next ∷ front)))

-- a group that is not whole
pub grouped-short : (count : ℕ) (held front : List ℕ) → length held + length front < count → 0 < length held + length front
    → grouped count held front ≡ (held ++ front) ∷ []
grouped-short count held [] short some =
    rw (eq_differs (length held) 0 (omega arith), append-nil held) refl
grouped-short count held (bit ∷ front) short some =
    rw (eq_differs (length held + 1) count (omega arith))
    (grouped-short count (held ++ bit ∷ []) front (omega (arith, length-append held (bit ∷ []))) (omega (arith, length-append held (bit ∷ [])))
    ∙ ap (λ l. l ∷ []) (append_assoc held (bit ∷ []) front))

whole_number : (count : ℕ) (group : List ℕ) → length group ≡ count → padded_number count group ≡ number_of group
whole_number count group whole =
    let none : count - length group ≡ 0 = omega arith in
    rw (none, append-nil group) refl

-- the number of a whole group that comes first
pub numbers_more : (count number : ℕ) (rest : List ℕ) → 0 < count → number < 2 ^ count
    → numbers_of count (bits count number ++ rest) ≡ number ∷ numbers_of count rest
numbers_more count number rest some small =
    let size = length-bits count number in
    ap (map (padded_number count)) (grouped-whole count [] (bits count number) rest (omega (arith, size)) (omega (arith, size)))
    ∙ ap (λ n. n ∷ numbers_of count rest) (whole_number count (bits count number) size ∙ number-bits count number small)

pub bits-zero : (count : ℕ) → bits count 0 ≡ replicate count 0
unfolding bits
bits-zero zero = refl
bits-zero (suc count) =
    ap (λ l. l ++ 0 ∷ []) (bits-zero count) ∙ replicate_more count 0
    ∙ (let one : count + 1 ≡ suc count = omega arith in ap (λ n. replicate n 0) one)

no_bits : (rest : List ℕ) → length rest ≡ 0 → rest ≡ []
no_bits [] none = refl
no_bits (bit ∷ rest) none = absurd (omega arith)

-- the number of the last group, which zeros fill up
pub numbers_last : (count number : ℕ) (waiting left : List ℕ) → 0 < length waiting → length waiting < count → number < 2 ^ count
    → waiting ++ bits (count - length waiting) 0 ≡ bits count number ++ left
    → (left ≡ []) × (numbers_of count waiting ≡ number ∷ [])
numbers_last count number waiting left some short small filled =
    let sizes = ap (length {A = ℕ}) filled in
    let none : left ≡ [] =
    no_bits left (omega (arith, sizes, length-append waiting (bits (count - length waiting) 0), length-append (bits count number) left, length-bits count number, length-bits (count - length waiting) 0)) in
    let whole : waiting ++ replicate (count - length waiting) 0 ≡ bits count number =
    ap (λ l. waiting ++ l) (sym (bits-zero (count - length waiting))) ∙ filled ∙ ap (λ l. bits count number ++ l) none ∙ append-nil (bits count number) in (
      none,
      ap (map (padded_number count)) (grouped-short count [] waiting (omega arith) (omega arith))
          ∙ ap (λ n. n ∷ []) (ap number_of whole ∙ number-bits count number small),
    )

-- the first number of waiting bits and those after them
pub first_number : (count number : ℕ) (waiting left behind : List ℕ) → 0 < count → number < 2 ^ count → waiting ≡ bits count number ++ left
    → numbers_of count (waiting ++ behind) ≡ number ∷ numbers_of count (left ++ behind)
first_number count number waiting left behind some small taken =
    ap (λ l. numbers_of count (l ++ behind)) taken ∙ ap (numbers_of count) (append_assoc (bits count number) left behind)
    ∙ numbers_more count number (left ++ behind) some small

-- the last number, of waiting bits alone
pub last_number : (count number : ℕ) (waiting full left : List ℕ) → 0 < length waiting → length waiting < count → number < 2 ^ count
    → full ≡ waiting ++ bits (count - length waiting) 0 → full ≡ bits count number ++ left
    → numbers_of count (waiting ++ []) ≡ number ∷ numbers_of count (left ++ [])
last_number count number waiting full left some short small filled taken =
    let last = numbers_last count number waiting left some short small (sym filled ∙ taken) in
    ap (numbers_of count) (append-nil waiting) ∙ last.1
    ∙ ap (λ l. number ∷ numbers_of count (l ++ [])) (sym last.0)
