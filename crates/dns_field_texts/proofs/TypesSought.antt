-- A type that is looked for in a bitmap.
use Rattle.std.proofs.Common.{◌≡◌, ◌≤◌, ◌<◌, ◌+◌, ◌*◌, ◌%◌, ◌==◌, ℕ, zero, suc, true, false, cond, List, [], ◌∷◌, ◌++◌, length, slice_index, get_or, arith, refl, sym, subst, inl, inr, ⊎_elim}
use Rattle.std.specs.List.{Contains}
use Rattle.std.proofs.lemmas.Bool.Decides.{nat_tests}
use Rattle.dns_scan.specs.Bits.{all_bits}
use Rattle.dns_field_texts.specs.TypeBitmap.{IsBitmapFrom, IsTypeBitmap, ones_from, types_in}
use Rattle.dns_field_texts.specs.Windows.{BeginsWithWindow, types_behind}
use Rattle.dns_field_texts.proofs.PrintedTypes.{in_append, in_left, in_right, ones_within, same_windows, windows_from}
use Rattle.dns_field_texts.proofs.TypeBits.{In, in_from, in_to, length-all}
use Rattle.dns_field_texts.proofs.TypeWindows.{bitmap_uncons}
use Rattle.dns_field_texts.proofs.TypesLeft.{types_first, types_none}

-- a type of a window is one whose bit is one
bit_of : (first : ℕ) (xs : List ℕ) (k : ℕ) → In (ones_from first xs) (first + k) → get_or xs k 0 ≡ 1
bit_of first [] k is = absurd is
bit_of first (x ∷ xs) zero is =
    elim (x == 1) as (λ v. (x == 1) ≡ v → In (cond v (first ∷ ones_from (first + 1) xs) (ones_from (first + 1) xs)) (first + 0) → x ≡ 1) [
      | true ↦ (λ e has. grind (arith, nat_tests))
      | false ↦ (λ e has. let past = (ones_within (first + 1) xs (first + 0) has).from in absurd (omega (arith, past)))
    ] refl is
bit_of first (x ∷ xs) (suc k) is =
    let e : first + suc k ≡ first + 1 + k = omega arith in
    let later : In (ones_from (first + 1) xs) (first + suc k) → get_or xs k 0 ≡ 1 =
    λ more. bit_of (first + 1) xs k (subst (In (ones_from (first + 1) xs)) e more) in
    elim (x == 1) as (λ v. In (cond v (first ∷ ones_from (first + 1) xs) (ones_from (first + 1) xs)) (first + suc k) → get_or xs k 0 ≡ 1) [
      | true ↦ (λ has. ⊎_elim (λ e. absurd (omega (arith, e))) (λ more. later more) has)
      | false ↦ (λ more. later more)
    ] is

of_bit : (first : ℕ) (xs : List ℕ) (k : ℕ) → get_or xs k 0 ≡ 1 → In (ones_from first xs) (first + k)
of_bit first [] k is = absurd (omega (arith, is))
of_bit first (x ∷ xs) zero is =
    let e : first ≡ first + 0 = omega arith in
    subst (λ b. In (ones_from first (b ∷ xs)) (first + 0)) (sym is) (inl e)
of_bit first (x ∷ xs) (suc k) is =
    let e : first + 1 + k ≡ first + suc k = omega arith in
    let later : In (ones_from (first + 1) xs) (first + suc k) = subst (In (ones_from (first + 1) xs)) e (of_bit (first + 1) xs k is) in
    elim (x == 1) as (λ v. In (cond v (first ∷ ones_from (first + 1) xs) (ones_from (first + 1) xs)) (first + suc k)) [
      | true ↦ inr later
      | false ↦ later
    ]

-- what is left of the bitmap has the type if the bitmap has it
pub record Sought (octets left : List ℕ) (type : ℕ) : Type 0 where
  pub low : ℕ
  pub bitmap : IsBitmapFrom low left
  pub there : In (types_in octets) type → In (types_in left) type
  pub back : In (types_in left) type → In (types_in octets) type

pub sought_all : (octets : List ℕ) (type : ℕ) → IsTypeBitmap octets → Sought octets octets type
sought_all octets type is = record { low = 0; bitmap = is; there = λ has. has; back = λ has. has }

module _ {octets left : List ℕ} {type : ℕ} (number : ℕ) (window behind : List ℕ) (so_far : Sought octets left type)
    (begins : BeginsWithWindow left number window behind) where
  -- a type of the window, or of what is behind it
  parts : types_in left ≡ types_behind (256 * number) window 0 ++ types_in behind
  parts = types_first so_far.low number left window behind begins so_far.bitmap

  few : length window ≤ 32
  few = (bitmap_uncons so_far.low number left window behind begins so_far.bitmap).are.few

  rest : IsBitmapFrom (number + 1) behind
  rest = (bitmap_uncons so_far.low number left window behind begins so_far.bitmap).rest

  in_window : In (types_behind (256 * number) window 0) type → (256 * number ≤ type) × (type < 256 * number + 256)
  in_window has =
      let within = ones_within (256 * number + 0) (all_bits 8 window) type has in
      let a = within.from in let b = within.below in let c = length-all window in let d = few in
      (omega (arith, a), omega (arith, b, c, d))

  in_behind : In (types_in behind) type → 256 * number + 256 ≤ type
  in_behind has =
      let all = same_windows behind rest in
      let a = (windows_from (number + 1) all.0 all.1 type (subst (λ (l : List ℕ). In l type) all.3 has)).from in
      omega (arith, a)

  pub sought_on : 256 * number + 256 ≤ type → Sought octets behind type
  sought_on past = record {
    low = number + 1;
    bitmap = rest;
    there = λ has.
        ⊎_elim (λ h. let w = in_window h in let b = w.1 in absurd (omega (arith, b, past))) (λ h. h)
        (in_append (types_behind (256 * number) window 0) (types_in behind) type (subst (λ (l : List ℕ). In l type) parts (so_far.there has)));
    back = λ has.
        so_far.back
        (subst (λ (l : List ℕ). In l type) (sym parts) (in_right (types_behind (256 * number) window 0) (types_in behind) type has));
  }

  place : 256 * number ≤ type → type < 256 * number + 256 → 256 * number + 0 + type % 256 ≡ type
  place from below = omega (arith, from, below)

  pub sought_found : type < 256 * number + 256 → 256 * number ≤ type → slice_index (all_bits 8 window) (type % 256) ≡ 1 → Contains (types_in octets) type
  sought_found below from is =
      let one = of_bit (256 * number + 0) (all_bits 8 window) (type % 256) is in
      in_to (types_in octets) type
      (so_far.back
      (subst (λ (l : List ℕ). In l type) (sym parts)
      (in_left (types_behind (256 * number) window 0) (types_in behind) type
      (subst (In (types_behind (256 * number) window 0)) (place from below) one))))

  pub sought_here : type < 256 * number + 256 → Contains (types_in octets) type
      → (256 * number ≤ type) × (slice_index (all_bits 8 window) (type % 256) ≡ 1)
  sought_here below has =
      let there : In (types_behind (256 * number) window 0) type =
      ⊎_elim (λ h. h) (λ h. let past = in_behind h in absurd (omega (arith, past, below)))
      (in_append (types_behind (256 * number) window 0) (types_in behind) type
      (subst (λ (l : List ℕ). In l type) parts (so_far.there (in_from (types_in octets) type has)))) in
      let from = (in_window there).0 in
      (from, bit_of (256 * number + 0) (all_bits 8 window) (type % 256) (subst (In (types_behind (256 * number) window 0)) (sym (place from below)) there))

pub sought_end : {octets left : List ℕ} {type : ℕ} → Sought octets left type
    → ((number : ℕ) (window behind : List ℕ) → BeginsWithWindow left number window behind → ⊥) → Contains (types_in octets) type → ⊥
sought_end {octets} {left} {type} so_far none has =
    subst (λ (l : List ℕ). In l type) (types_none so_far.low left so_far.bitmap none) (so_far.there (in_from (types_in octets) type has))
