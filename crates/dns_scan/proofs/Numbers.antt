-- The numbers of groups of bits.
use Rattle.std.proofs.Common.{◌≡◌, ℕ, ◌+◌, ◌-◌, ◌*◌, ◌^◌, ◌<◌, ◌≤◌, ◌==◌, zero, suc, Bool, true, false, List, [], ◌∷◌, ◌++◌, length, map, fold, replicate, refl, sym, ◌∙◌, ap, subst, arith, length-append}
use Rattle.std.specs.Prelude.{if◌then◌else◌}
use Rattle.std.specs.List.{AllByRecursion}
use Rattle.std.proofs.Math.Nat.{pow-suc, mul_assoc, mul_comm}
use Rattle.std.proofs.lemmas.List.{length-replicate}
use Rattle.std.proofs.lemmas.Nat.{mul-le}
use Rattle.dns_scan.specs.Bits.{bits, all_bits, grouped, padded_number, numbers_of}
use Rattle.dns_scan.specs.Base.{width, size}
use Rattle.dns_scan.specs.declared.encoding.base.Base.{Base}
use Rattle.dns_scan.specs.declared.encoding.base.Base.TheVariants.{Sixteen, ThirtyTwoHex, SixtyFour}
use Rattle.dns_scan.proofs.BitLists.{IsBit, bits_are}
use Rattle.dns_scan.proofs.Groups.{eq_same}

-- a group has bits, and at most that number of them
pub record IsGroup (count : ℕ) (group : List ℕ) : Type 0 where
  pub each : AllByRecursion IsBit group
  pub few : length group ≤ count

number_onto : (group : List ℕ) (number : ℕ) → AllByRecursion IsBit group
    → fold (λ n b. 2 * n + b) number group < (number + 1) * 2 ^ length group
number_onto [] number each = omega arith
number_onto (bit ∷ group) number each =
    let more = number_onto group (2 * number + bit) each.1 in
    let wide : (2 * number + bit + 1) * 2 ^ length group ≤ (2 * number + 2) * 2 ^ length group =
    mul-le (2 * number + bit + 1) (2 ^ length group) (2 * number + 2) (2 ^ length group) (omega (arith, each.0)) (omega arith) in
    let power : (number + 1) * 2 ^ suc (length group) ≡ (2 * number + 2) * 2 ^ length group =
    ap (λ n. (number + 1) * n) (pow-suc 2 (length group) ∙ mul_comm (2 ^ length group) 2)
    ∙ sym (mul_assoc (number + 1) 2 (2 ^ length group)) ∙ ap (λ n. n * 2 ^ length group) (omega arith) in
    omega (arith, more, wide, power)

each_append : (P : ℕ → Type 0) (front rest : List ℕ) → AllByRecursion P front → AllByRecursion P rest → AllByRecursion P (front ++ rest)
each_append P [] rest each more = more
each_append P (first ∷ front) rest each more = (each.0, each_append P front rest each.1 more)

pub zeros : (count : ℕ) → AllByRecursion IsBit (replicate count 0)
zeros zero = tt
zeros (suc count) = (omega arith, zeros count)

filled_size : (count : ℕ) (group : List ℕ) → length group ≤ count → length (group ++ replicate (count - length group) 0) ≡ count
filled_size count group few = omega (arith, length-append group (replicate (count - length group) 0), length-replicate {A = ℕ} (count - length group) 0)

filled_bits : (count : ℕ) (group : List ℕ) → IsGroup count group → AllByRecursion IsBit (group ++ replicate (count - length group) 0)
filled_bits count group is = each_append IsBit group (replicate (count - length group) 0) is.each (zeros (count - length group))

padded_small : (count : ℕ) (group : List ℕ) → IsGroup count group → padded_number count group < 2 ^ count
padded_small count group is =
    let whole = filled_size count group is.few in
    let P : ℕ → Type 0 = λ n. padded_number count group < 2 ^ n in
    subst P whole (omega (arith, number_onto (group ++ replicate (count - length group) 0) 0 (filled_bits count group is)))

-- if one more bit may complete a group
next_group : (count : ℕ) (held others : List ℕ) (bit : ℕ) (whole : Bool) → (length held + 1 == count) ≡ whole → length held < count
    → AllByRecursion IsBit (held ++ bit ∷ []) → AllByRecursion (IsGroup count) (grouped count [] others)
    → (length (held ++ bit ∷ []) < count → AllByRecursion (IsGroup count) (grouped count (held ++ bit ∷ []) others))
    → AllByRecursion (IsGroup count) (grouped count held (bit ∷ others))
next_group count held others bit true is few each fresh more =
    rw is (record { each = each; few = omega (arith, length-append held (bit ∷ [])) }, fresh)
next_group count held others bit false is few each fresh more = rw is (more (omega (arith, length-append held (bit ∷ []), differs)))
  where
    differs : length held + 1 ≡ count → ⊥
    differs same = let bad : true ≡ false = sym (eq_same (length held + 1) count same) ∙ is in cc

groups_are : (count : ℕ) (held others : List ℕ) → length held < count → AllByRecursion IsBit held → AllByRecursion IsBit others
    → AllByRecursion (IsGroup count) (grouped count held others)
groups_are count held [] few each more = end (length held == 0)
  where
    end : (none : Bool) → AllByRecursion (IsGroup count) (if none then [] else held ∷ [])
    end true = tt
    end false = (record { each = each; few = omega arith }, tt)
groups_are count held (bit ∷ others) few each more =
    next_group count held others bit (length held + 1 == count) refl few (each_append IsBit held (bit ∷ []) each (more.0, tt))
    (groups_are count [] others (omega arith) tt more.1)
    (λ less. groups_are count (held ++ bit ∷ []) others less (each_append IsBit held (bit ∷ []) each (more.0, tt)) more.1)

pub all_bits_are : (count : ℕ) (numbers : List ℕ) → AllByRecursion IsBit (all_bits count numbers)
all_bits_are count [] = tt
all_bits_are count (number ∷ numbers) =
    each_append IsBit (bits count number) (all_bits count numbers) (bits_are count number) (all_bits_are count numbers)

each_padded : (count limit : ℕ) (groups : List (List ℕ)) → limit ≡ 2 ^ count → AllByRecursion (IsGroup count) groups
    → AllByRecursion (λ n. n < limit) (map (padded_number count) groups)
each_padded count limit [] is each = tt
each_padded count limit (group ∷ groups) is each =
    (omega (arith, is, padded_small count group each.0), each_padded count limit groups is each.1)

-- the numbers of octets are those of characters
pub numbers_small : (base : Base) (octets : List ℕ)
    → AllByRecursion (λ n. n < size base) (numbers_of (width base) (all_bits 8 octets))
numbers_small Sixteen octets =
    each_padded 4 16 (grouped 4 [] (all_bits 8 octets)) refl (groups_are 4 [] (all_bits 8 octets) (omega arith) tt (all_bits_are 8 octets))
numbers_small ThirtyTwoHex octets =
    each_padded 5 32 (grouped 5 [] (all_bits 8 octets)) refl (groups_are 5 [] (all_bits 8 octets) (omega arith) tt (all_bits_are 8 octets))
numbers_small SixtyFour octets =
    each_padded 6 64 (grouped 6 [] (all_bits 8 octets)) refl (groups_are 6 [] (all_bits 8 octets) (omega arith) tt (all_bits_are 8 octets))
