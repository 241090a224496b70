-- The types of a bitmap are in ascending order, and so they are few.
use Rattle.std.proofs.Common.{◌≡◌, ◌≤◌, ◌<◌, ◌+◌, ◌*◌, ◌==◌, ℕ, zero, suc, true, false, cond, List, [], ◌∷◌, ◌++◌, length, slice_index, arith, sym, subst}
use Rattle.std.specs.List.{flat_map}
use Rattle.std.specs.List.Sorted.{IsStrictlyIncreasing}
use Rattle.dns_scan.specs.Bits.{all_bits}
use Rattle.dns_field_texts.specs.TypeBitmap.{Window, IsTypeBitmap, AreWindows, ones_from, window_types, types_in}
use Rattle.dns_field_texts.proofs.PrintedTypes.{same_windows}
use Rattle.dns_field_texts.proofs.TypeBits.{length-all}

-- ascending numbers from a first one on, below a limit
abbrev Ascend : ℕ → ℕ → List ℕ → Type 0
Ascend limit first [] = first ≤ limit
Ascend limit first (x ∷ xs) = (first ≤ x) × Ascend limit (x + 1) xs

from_below : (limit first lower : ℕ) (xs : List ℕ) → lower ≤ first → Ascend limit first xs → Ascend limit lower xs
from_below limit first lower [] below each = omega (arith, each)
from_below limit first lower (x ∷ xs) below each = let a = each.0 in (omega (arith, a), each.1)

one_after : (limit middle first : ℕ) (xs ys : List ℕ) → Ascend middle first xs → Ascend limit middle ys → Ascend limit first (xs ++ ys)
one_after limit middle first [] ys each others = from_below limit middle first ys each others
one_after limit middle first (x ∷ xs) ys each others = (each.0, one_after limit middle (x + 1) xs ys each.1 others)

ones_ascend : (first : ℕ) (xs : List ℕ) → Ascend (first + length xs) first (ones_from first xs)
ones_ascend first [] = omega arith
ones_ascend first (x ∷ xs) =
    let e : first + 1 + length xs ≡ first + suc (length xs) = omega arith in
    let later : Ascend (first + suc (length xs)) (first + 1) (ones_from (first + 1) xs) =
    subst (λ n. Ascend n (first + 1) (ones_from (first + 1) xs)) e (ones_ascend (first + 1) xs) in
    let same : first ≤ first = omega arith in
    let less : first ≤ first + 1 = omega arith in
    elim (x == 1) as (λ v. Ascend (first + suc (length xs)) first (cond v (first ∷ ones_from (first + 1) xs) (ones_from (first + 1) xs))) [
      | true ↦ (same, later)
      | false ↦ from_below (first + suc (length xs)) (first + 1) first (ones_from (first + 1) xs) less later
    ]

windows_ascend : (low : ℕ) (windows : List Window) → low ≤ 256 → AreWindows low windows → Ascend 65536 (256 * low) (flat_map window_types windows)
windows_ascend low [] small are = omega (arith, small)
windows_ascend low (window ∷ windows) small are =
    let start = 256 * window.number in
    let limit = start + length (all_bits 8 window.octets) in
    let few = are.1.few in
    let long = length-all window.octets in
    let from = are.0 in
    let number = are.1.small in
    let others = from_below 65536 (256 * (window.number + 1)) limit (flat_map window_types windows) (omega (arith, few, long))
    (windows_ascend (window.number + 1) windows (omega (arith, number)) are.2) in
    from_below 65536 start (256 * low) (window_types window ++ flat_map window_types windows) (omega (arith, from))
    (one_after 65536 limit start (window_types window) (flat_map window_types windows) (ones_ascend start (all_bits 8 window.octets)) others)

by_index : (limit first : ℕ) (xs : List ℕ) → Ascend limit first xs → IsStrictlyIncreasing xs
by_index limit first [] each k within = absurd (omega (arith, within))
by_index limit first (x ∷ []) each k within = absurd (omega (arith, within))
by_index limit first (x ∷ y ∷ xs) each zero within = let a = each.1.0 in omega (arith, a)
by_index limit first (x ∷ y ∷ xs) each (suc k) within =
    let e : suc (k + 1) ≡ suc k + 1 = omega arith in
    subst (λ n. slice_index (x ∷ y ∷ xs) (suc k) < slice_index (x ∷ y ∷ xs) n) e (by_index limit (x + 1) (y ∷ xs) each.1 k (omega (arith, within)))

counted : (limit first : ℕ) (xs : List ℕ) → Ascend limit first xs → first + length xs ≤ limit
counted limit first [] each = omega (arith, each)
counted limit first (x ∷ xs) each = let a = each.0 in let b = counted limit (x + 1) xs each.1 in omega (arith, a, b)

pub types_ascend : (octets : List ℕ) → IsTypeBitmap octets → IsStrictlyIncreasing (types_in octets)
types_ascend octets is =
    let all = same_windows octets is in
    subst IsStrictlyIncreasing (sym all.3)
    (by_index 65536 (256 * 0) (flat_map window_types all.0) (windows_ascend 0 all.0 (omega arith) all.1))

pub types_few : (octets : List ℕ) → IsTypeBitmap octets → length (types_in octets) ≤ 65536
types_few octets is =
    let all = same_windows octets is in
    let few = counted 65536 (256 * 0) (flat_map window_types all.0) (windows_ascend 0 all.0 (omega arith) all.1) in
    subst (λ (l : List ℕ). length l ≤ 65536) (sym all.3) (omega (arith, few))
