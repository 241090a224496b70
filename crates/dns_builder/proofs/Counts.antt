-- The counts in a header, and one or more of them overwritten.
use Rattle.std.proofs.Common.{◌≡◌, ◌<◌, ◌≤◌, ◌+◌, ◌-◌, ◌*◌, ℕ, zero, suc, List, ◌++◌, length, take, drop, refl, ◌∙◌, ap, subst, arith}
use Rattle.std.specs.Prelude.{replicate}
use Rattle.std.specs.Int.{from_be_bytes, to_be_bytes, w16}
use Rattle.std.proofs.Math.Seq.{drop-append-add}
use Rattle.std.proofs.lemmas.Nat.{from_be_bytes-to_be_bytes_2}
use Rattle.dns_name.specs.Remembered.{patched}
use Rattle.dns_octets.specs.Numbers.{number_at}
use Rattle.dns_builder.proofs.Patches.{patched_behind}

-- four counts, two octets each
abbrev pub four_counts : (ℕ → ℕ) → List ℕ
four_counts count = to_be_bytes w16 (count 0) ++ to_be_bytes w16 (count 1) ++ to_be_bytes w16 (count 2) ++ to_be_bytes w16 (count 3)

-- one count is another, and the others stay
abbrev pub put : ℕ → ℕ → (ℕ → ℕ) → ℕ → ℕ
put zero value count zero = value
put zero value count (suc other) = count (suc other)
put (suc number) value count zero = count zero
put (suc number) value count (suc other) = put number value (λ k. count (suc k)) other

-- the first counts stay, and the others are zero
abbrev pub first_of : ℕ → (ℕ → ℕ) → ℕ → ℕ
first_of zero count number = 0
first_of (suc first) count zero = count zero
first_of (suc first) count (suc number) = first_of first (λ k. count (suc k)) number

patched_behind_four : (header tail : List ℕ) (place : ℕ) (over : List ℕ) → length header ≡ 4
    → patched (header ++ tail) (4 + place) over ≡ header ++ patched tail place over
patched_behind_four header tail place over four =
    subst (λ n. patched (header ++ tail) (n + place) over ≡ header ++ patched tail place over) four (patched_behind header tail place over)

-- a count is overwritten
pub patched_count : (header rest : List ℕ) (count : ℕ → ℕ) (number value : ℕ) → length header ≡ 4 → number < 4
    → patched (header ++ (four_counts count ++ rest)) (4 + 2 * number) (to_be_bytes w16 value)
    ≡ header ++ (four_counts (put number value count) ++ rest)
patched_count header rest count number value four few =
    patched_behind_four header (four_counts count ++ rest) (2 * number) (to_be_bytes w16 value) four ∙ ap (λ l. header ++ l) (by_number number few)
  where
    by_number : (number : ℕ) → number < 4
        → patched (four_counts count ++ rest) (2 * number) (to_be_bytes w16 value) ≡ four_counts (put number value count) ++ rest
    by_number zero few = refl
    by_number (suc zero) few = refl
    by_number (suc (suc zero)) few = refl
    by_number (suc (suc (suc zero))) few = refl
    by_number (suc (suc (suc (suc number)))) few = absurd (omega arith)

-- all counts from one on are zero
pub patched_zero : (header rest : List ℕ) (count : ℕ → ℕ) (first : ℕ) → length header ≡ 4 → first ≤ 4
    → patched (header ++ (four_counts count ++ rest)) (4 + 2 * first) (replicate (8 - 2 * first) 0)
    ≡ header ++ (four_counts (first_of first count) ++ rest)
patched_zero header rest count first four few =
    patched_behind_four header (four_counts count ++ rest) (2 * first) (replicate (8 - 2 * first) 0) four ∙ ap (λ l. header ++ l) (by_first first few)
  where
    by_first : (first : ℕ) → first ≤ 4
        → patched (four_counts count ++ rest) (2 * first) (replicate (8 - 2 * first) 0) ≡ four_counts (first_of first count) ++ rest
    by_first zero few = refl
    by_first (suc zero) few = refl
    by_first (suc (suc zero)) few = refl
    by_first (suc (suc (suc zero))) few = refl
    by_first (suc (suc (suc (suc zero)))) few = refl
    by_first (suc (suc (suc (suc (suc first))))) few = absurd (omega arith)

-- a count as it is read
pub number_of_count : (header rest : List ℕ) (count : ℕ → ℕ) (number : ℕ) → length header ≡ 4 → number < 4 → count number ≤ 65535
    → number_at (header ++ (four_counts count ++ rest)) (4 + 2 * number) ≡ count number
number_of_count header rest count number four few short =
    ap (λ l. from_be_bytes w16 (take 2 l)) (behind ∙ drop-append-add header (four_counts count ++ rest) (2 * number))
    ∙ ap (from_be_bytes w16) (by_number number few) ∙ from_be_bytes-to_be_bytes_2 (count number) (omega arith)
  where
    behind : drop (4 + 2 * number) (header ++ (four_counts count ++ rest)) ≡ drop (length header + 2 * number) (header ++ (four_counts count ++ rest))
    behind = ap (λ n. drop n (header ++ (four_counts count ++ rest))) (omega arith)

    by_number : (number : ℕ) → number < 4 → take 2 (drop (2 * number) (four_counts count ++ rest)) ≡ to_be_bytes w16 (count number)
    by_number zero few = refl
    by_number (suc zero) few = refl
    by_number (suc (suc zero)) few = refl
    by_number (suc (suc (suc zero))) few = refl
    by_number (suc (suc (suc (suc number)))) few = absurd (omega arith)
