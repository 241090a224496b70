-- The fields of a header, and how they change with a bit.
use Rattle.std.proofs.Common.{◌≡◌, ℕ, zero, suc, ◌+◌, ◌-◌, ◌*◌, ◌/◌, ◌%◌, ◌==◌, ◌<◌, ◌^◌, List, [], ◌∷◌, ◌++◌, Bool, true, false, refl, sym, ◌∙◌, ap, subst, arith, nat_lt, length, slice_set, get_or}
use Rattle.std.specs.Prelude.{if◌then◌else◌, slice_index}
use Rattle.dns_header.specs.HeaderFields.{HeaderFields, fields_of, header_octets}
use Rattle.dns_header.specs.HeaderBits.{SetsBit, ChangesBit, SetsOpcode, SetsRcode}
use Rattle.std.specs.Int.{from_be_bytes, to_be_bytes, w16, w8, bit_at}
use Rattle.std.specs.Int.RustNames.{bit_and, bit_or}
use Rattle.std.proofs.lemmas.Grind.{widths}
use Rattle.std.proofs.lemmas.Nat.{be_bytes_2}
use Rattle.std.proofs.lemmas.Nat.Bits.{bit_at_set_same, bit_at_set_other, bit_at_clear_same, bit_at_clear_other}

pub bit_set : (octet bit : ℕ) → bit < 8 → octet < 256 → SetsBit bit true octet (bit_or octet (1 * 2 ^ bit % 256))
bit_set octet bit within small = record {
  bits = λ i below. grind (arith, bit_at_set_same w8 octet bit within, bit_at_set_other w8 octet bit within i);
  was_octet = small;
  is_octet = grind (arith, widths);
}

pub bit_cleared : (octet bit : ℕ) → bit < 8 → octet < 256 → SetsBit bit false octet (bit_and octet (255 - 1 * 2 ^ bit % 256))
bit_cleared octet bit within small = record {
  bits = λ i below. grind (arith, bit_at_clear_same w8 octet bit within, bit_at_clear_other w8 octet bit within i);
  was_octet = small;
  is_octet = grind (arith, widths);
}

abbrev number : Bool → ℕ
number set = if set then 1 else 0

is_number : (n : ℕ) → n % 2 ≡ number (n % 2 == 1)
is_number n = grind arith

-- fields with those of the bits of a third or fourth octet
abbrev with_third : HeaderFields → (ℕ → Bool) → HeaderFields
with_third f s = record f {
  qr = s 7;
  opcode = 8 * number (s 6) + 4 * number (s 5) + 2 * number (s 4) + number (s 3);
  aa = s 2;
  tc = s 1;
  rd = s 0;
}

abbrev with_fourth : HeaderFields → (ℕ → Bool) → HeaderFields
with_fourth f s = record f {
  ra = s 7;
  z = s 6;
  ad = s 5;
  cd = s 4;
  rcode = 8 * number (s 3) + 4 * number (s 2) + 2 * number (s 1) + number (s 0);
}

high_bit : (x : ℕ) → x < 256 → nat_lt 127 x ≡ (x / 128 % 2 == 1)
high_bit x small = grind arith

low_bit : (x : ℕ) → (x % 2 == 1) ≡ (x / 1 % 2 == 1)
low_bit x = ap (λ n. n == 1) (omega arith)

low_bits : (x : ℕ) → x % 16 ≡ 8 * number (x / 8 % 2 == 1) + 4 * number (x / 4 % 2 == 1) + 2 * number (x / 2 % 2 == 1) + number (x / 1 % 2 == 1)
low_bits x = omega (arith, is_number (x / 8), is_number (x / 4), is_number (x / 2), is_number (x / 1))

high_bits : (x : ℕ) → x / 8 % 16 ≡ 8 * number (x / 64 % 2 == 1) + 4 * number (x / 32 % 2 == 1) + 2 * number (x / 16 % 2 == 1) + number (x / 8 % 2 == 1)
high_bits x = omega (arith, is_number (x / 64), is_number (x / 32), is_number (x / 16), is_number (x / 8))

abbrev has : ℕ → ℕ → Bool
has x i = bit_at x i == 1

third_by_bits : (a b x d : ℕ) → x < 256 → fields_of (a ∷ b ∷ x ∷ d ∷ []) ≡ with_third (fields_of (a ∷ b ∷ 0 ∷ d ∷ [])) (has x)
third_by_bits a b x d small = λ i. record (with_third (fields_of (a ∷ b ∷ 0 ∷ d ∷ [])) (has x)) {
  qr = high_bit x small i;
  opcode = high_bits x i;
  rd = low_bit x i;
}

fourth_by_bits : (a b x d : ℕ) → fields_of (a ∷ b ∷ x ∷ d ∷ []) ≡ with_fourth (fields_of (a ∷ b ∷ x ∷ 0 ∷ [])) (has d)
fourth_by_bits a b x d = λ i. record (with_fourth (fields_of (a ∷ b ∷ x ∷ 0 ∷ [])) (has d)) { rcode = low_bits d i }

-- an octet with one bit set or cleared
abbrev with : ℕ → Bool → (ℕ → Bool) → ℕ → Bool
with bit set s i = if i == bit then set else s i

-- eight bits determine all of them
third_bits : (f : HeaderFields) (s t : ℕ → Bool) → ((i : ℕ) → i < 8 → s i ≡ t i) → with_third f s ≡ with_third f t
third_bits f s t same =
    simp (
      same 0 (omega arith),
      same 1 (omega arith),
      same 2 (omega arith),
      same 3 (omega arith),
      same 4 (omega arith),
      same 5 (omega arith),
      same 6 (omega arith),
      same 7 (omega arith),
    )

fourth_bits : (f : HeaderFields) (s t : ℕ → Bool) → ((i : ℕ) → i < 8 → s i ≡ t i) → with_fourth f s ≡ with_fourth f t
fourth_bits f s t same =
    simp (
      same 0 (omega arith),
      same 1 (omega arith),
      same 2 (omega arith),
      same 3 (omega arith),
      same 4 (omega arith),
      same 5 (omega arith),
      same 6 (omega arith),
      same 7 (omega arith),
    )

four_octets : (xs : List ℕ) → length xs ≡ 4 → xs ≡ slice_index xs 0 ∷ slice_index xs 1 ∷ slice_index xs 2 ∷ slice_index xs 3 ∷ []
four_octets (a ∷ (b ∷ (c ∷ (d ∷ [])))) four = refl
four_octets [] four = absurd (omega (arith, four))
four_octets (a ∷ []) four = absurd (omega (arith, four))
four_octets (a ∷ (b ∷ [])) four = absurd (omega (arith, four))
four_octets (a ∷ (b ∷ (c ∷ []))) four = absurd (omega (arith, four))
four_octets (a ∷ (b ∷ (c ∷ (d ∷ (e ∷ rest))))) four = absurd (omega (arith, four))

-- How the fields of a header change if one bit of its third octet does: `is` gives the bits.
in_third : (change : HeaderFields → HeaderFields) (bit : ℕ) (set : Bool)
    → ((f : HeaderFields) (s : ℕ → Bool) → with_third f (with bit set s) ≡ change (with_third f s))
    → (xs ys : List ℕ) → ChangesBit 2 bit set xs ys → fields_of ys ≡ change (fields_of xs)
in_third change bit set is xs ys changes =
    let y = changes.octet in
    let a = slice_index xs 0 in
    let b = slice_index xs 1 in
    let x = slice_index xs 2 in
    let d = slice_index xs 3 in
    let f = fields_of (a ∷ b ∷ 0 ∷ d ∷ []) in
    let P : List ℕ → Type 0 = λ l. fields_of (slice_set l 2 y) ≡ change (fields_of l) in
    ap fields_of changes.is ∙ subst P (sym (four_octets xs changes.four))
    (third_by_bits a b y d changes.sets.is_octet ∙ third_bits f (has y) (with bit set (has x)) changes.sets.bits ∙ is f (has x)
    ∙ ap change (sym (third_by_bits a b x d changes.sets.was_octet)))

-- the same for its fourth
in_fourth : (change : HeaderFields → HeaderFields) (bit : ℕ) (set : Bool)
    → ((f : HeaderFields) (s : ℕ → Bool) → with_fourth f (with bit set s) ≡ change (with_fourth f s))
    → (xs ys : List ℕ) → ChangesBit 3 bit set xs ys → fields_of ys ≡ change (fields_of xs)
in_fourth change bit set is xs ys changes =
    let y = changes.octet in
    let a = slice_index xs 0 in
    let b = slice_index xs 1 in
    let x = slice_index xs 2 in
    let d = slice_index xs 3 in
    let f = fields_of (a ∷ b ∷ x ∷ 0 ∷ []) in
    let P : List ℕ → Type 0 = λ l. fields_of (slice_set l 3 y) ≡ change (fields_of l) in
    ap fields_of changes.is ∙ subst P (sym (four_octets xs changes.four))
    (fourth_by_bits a b x y ∙ fourth_bits f (has y) (with bit set (has d)) changes.sets.bits ∙ is f (has d)
    ∙ ap change (sym (fourth_by_bits a b x d)))

pub sets_qr : (old new : List ℕ) (set : Bool) → ChangesBit 2 7 set old new → fields_of new ≡ record (fields_of old) { qr = set }
sets_qr old new set = in_third (λ f. record f { qr = set }) 7 set (λ f s. refl) old new

pub sets_aa : (old new : List ℕ) (set : Bool) → ChangesBit 2 2 set old new → fields_of new ≡ record (fields_of old) { aa = set }
sets_aa old new set = in_third (λ f. record f { aa = set }) 2 set (λ f s. refl) old new

pub sets_tc : (old new : List ℕ) (set : Bool) → ChangesBit 2 1 set old new → fields_of new ≡ record (fields_of old) { tc = set }
sets_tc old new set = in_third (λ f. record f { tc = set }) 1 set (λ f s. refl) old new

pub sets_rd : (old new : List ℕ) (set : Bool) → ChangesBit 2 0 set old new → fields_of new ≡ record (fields_of old) { rd = set }
sets_rd old new set = in_third (λ f. record f { rd = set }) 0 set (λ f s. refl) old new

pub sets_ra : (old new : List ℕ) (set : Bool) → ChangesBit 3 7 set old new → fields_of new ≡ record (fields_of old) { ra = set }
sets_ra old new set = in_fourth (λ f. record f { ra = set }) 7 set (λ f s. refl) old new

pub sets_z : (old new : List ℕ) (set : Bool) → ChangesBit 3 6 set old new → fields_of new ≡ record (fields_of old) { z = set }
sets_z old new set = in_fourth (λ f. record f { z = set }) 6 set (λ f s. refl) old new

pub sets_ad : (old new : List ℕ) (set : Bool) → ChangesBit 3 5 set old new → fields_of new ≡ record (fields_of old) { ad = set }
sets_ad old new set = in_fourth (λ f. record f { ad = set }) 5 set (λ f s. refl) old new

pub sets_cd : (old new : List ℕ) (set : Bool) → ChangesBit 3 4 set old new → fields_of new ≡ record (fields_of old) { cd = set }
sets_cd old new set = in_fourth (λ f. record f { cd = set }) 4 set (λ f s. refl) old new

pub sets_opcode : (xs ys : List ℕ) (y opcode : ℕ) → xs ≡ ys → length xs ≡ 4 → SetsOpcode opcode (slice_index xs 2) y
    → fields_of (slice_set xs 2 y) ≡ record (fields_of ys) { opcode = opcode }
sets_opcode xs ys y opcode same four sets =
    let x = slice_index xs 2 in
    let P : List ℕ → Type 0 = λ l. fields_of (slice_set l 2 y) ≡ record (fields_of l) { opcode = opcode } in
    let fourth : y / 4 % 2 ≡ x / 4 % 2 = omega (arith, sets.behind) in
    let second : y / 2 % 2 ≡ x / 2 % 2 = omega (arith, sets.behind) in
    let lowest : y % 2 ≡ x % 2 = omega (arith, sets.behind) in
    rw (sym same) (subst P (sym (four_octets xs four)) (λ i. record (fields_of (slice_index xs 0 ∷ slice_index xs 1 ∷ x ∷ slice_index xs 3 ∷ [])) {
      qr = sets.in_front i;
      opcode = sets.set i;
      aa = fourth i == 1;
      tc = second i == 1;
      rd = lowest i == 1;
    }))

pub sets_rcode : (xs ys : List ℕ) (y rcode : ℕ) → xs ≡ ys → length xs ≡ 4 → SetsRcode rcode (slice_index xs 3) y
    → fields_of (slice_set xs 3 y) ≡ record (fields_of ys) { rcode = rcode }
sets_rcode xs ys y rcode same four sets =
    let d = slice_index xs 3 in
    let P : List ℕ → Type 0 = λ l. fields_of (slice_set l 3 y) ≡ record (fields_of l) { rcode = rcode } in
    let highest : y / 128 % 2 ≡ d / 128 % 2 = omega (arith, sets.in_front) in
    let seventh : y / 64 % 2 ≡ d / 64 % 2 = omega (arith, sets.in_front) in
    let sixth : y / 32 % 2 ≡ d / 32 % 2 = omega (arith, sets.in_front) in
    rw (sym same) (subst P (sym (four_octets xs four)) (λ i. record (fields_of (slice_index xs 0 ∷ slice_index xs 1 ∷ slice_index xs 2 ∷ d ∷ [])) {
      ra = highest i == 1;
      z = seventh i == 1;
      ad = sixth i == 1;
      cd = sets.in_front i % 2 == 1;
      rcode = sets.set i;
    }))

third_octet : (x : ℕ) → x < 256
    → 128 * number (nat_lt 127 x) + 8 * (x / 8 % 16) + 4 * number (x / 4 % 2 == 1) + 2 * number (x / 2 % 2 == 1) + number (x % 2 == 1) ≡ x
third_octet x small = rw (high_bit x small) (omega (arith, is_number (x / 128), is_number (x / 4), is_number (x / 2), is_number x))

fourth_octet : (x : ℕ) → x < 256
    → 128 * number (x / 128 % 2 == 1) + 64 * number (x / 64 % 2 == 1) + 32 * number (x / 32 % 2 == 1) + 16 * number (x / 16 % 2 == 1) + x % 16 ≡ x
fourth_octet x small = omega (arith, is_number (x / 128), is_number (x / 64), is_number (x / 32), is_number (x / 16))

two_octets : (a b : ℕ) → a < 256 → b < 256 → (i : ℕ) → get_or (a ∷ b ∷ []) i 0 < 256
two_octets a b first second zero = first
two_octets a b first second (suc zero) = second
two_octets a b first second (suc (suc i)) = omega arith

pub octets_by_fields : (xs : List ℕ) → length xs ≡ 4 → ((i : ℕ) → get_or xs i 0 < 256) → header_octets (fields_of xs) ≡ xs
octets_by_fields xs four small =
    let a = slice_index xs 0 in
    let b = slice_index xs 1 in
    let x = slice_index xs 2 in
    let d = slice_index xs 3 in
    let P : List ℕ → Type 0 = λ l. header_octets (fields_of l) ≡ l in
    let front : to_be_bytes w16 (from_be_bytes w16 (a ∷ b ∷ [])) ≡ a ∷ b ∷ [] = be_bytes_2 (a ∷ b ∷ []) (from_be_bytes w16 (a ∷ b ∷ [])) refl (two_octets a b (small 0) (small 1)) refl in
    subst P (sym (four_octets xs four)) (λ i. front i ++ third_octet x (small 2) i ∷ fourth_octet d (small 3) i ∷ [])
