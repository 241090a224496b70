-- Numbers of keys in text, which have no leading zeros.
use Rattle.std.proofs.Common.{◌≡◌, ◌<◌, ◌≤◌, ◌^◌, ℕ, zero, suc, Bool, true, false, List, [], ◌∷◌, length, drop, get_or, refl, sym, ◌∙◌, ap, subst, arith}
use Rattle.std.proofs.lemmas.Bool.Decides.{nat_tests}
use Rattle.std.proofs.lemmas.Fmt.{decimal-digits_value, decimal_digit, decimal_nonempty, digits_decimal, digits_value-decimal, first_decimal}
use Rattle.std.specs.Prelude.{decimal, nat_lt, slice_index, Option, None, Some, IfSome, IfNone, if◌then◌else◌, ◌&&◌}
use Rattle.std.specs.Char.{is_ascii_digit}
use Rattle.std.specs.List.{list_all}
use Rattle.std.specs.Str.Parse.{digits_value}
use Rattle.dns_values.specs.Mnemonic.{number_spelled}
use Rattle.dns_values.proofs.Words.{digits_model, number_spelled-digits}

pub keyed : (word : List ℕ) → 3 ≤ length word → get_or word 0 0 ≡ 107 → get_or word 1 0 ≡ 101 → get_or word 2 0 ≡ 121
    → word ≡ 107 ∷ 101 ∷ 121 ∷ drop 3 word
keyed [] long k e y = absurd (omega arith)
keyed (a ∷ []) long k e y = absurd (omega arith)
keyed (a ∷ b ∷ []) long k e y = absurd (omega arith)
keyed (a ∷ b ∷ d ∷ word) long k e y = λ i. k i ∷ e i ∷ y i ∷ word

-- a number that is spelled
record Spelled (a b d : Bool) (value n : ℕ) : Type 0 where
  first : a ≡ true
  second : b ≡ true
  third : d ≡ true
  is : value ≡ n

spelled_parts : (a b d : Bool) (value n : ℕ) → (if a && b && d then Some value else None) ≡ Some n → Spelled a b d value n
spelled_parts true true true value n same = record { first = refl; second = refl; third = refl; is = cc }
spelled_parts true true false value n same = absurd (cc)
spelled_parts true false d value n same = absurd (cc)
spelled_parts false b d value n same = absurd (cc)

pub spelled_decimal : (digits : List ℕ) (n : ℕ) → number_spelled (2 ^ 16) digits ≡ Some n
    → ((1 < length digits) × (slice_index digits 0 ≡ 48) → ⊥) → (digits ≡ decimal n) × (n < 2 ^ 16)
unfolding number_spelled
spelled_decimal digits n spelled leading =
    let parts = spelled_parts (list_all is_ascii_digit digits) (nat_lt 0 (length digits)) (nat_lt (digits_value 10 digits) (2 ^ 16)) (digits_value 10 digits) n spelled in
    let b = parts.second in
    let d = parts.third in
    let some : 0 < length digits = grind (arith, nat_tests) in
    let small : digits_value 10 digits < 2 ^ 16 = grind (arith, nat_tests) in
    let one : get_or digits 0 0 ≡ 48 → length digits ≡ 1 = λ zero_first. alone (length digits) some (λ more. leading (more, zero_first)) in
    let same = decimal-digits_value digits_model digits parts.first some one (omega (arith, small)) in
    (sym same ∙ ap decimal parts.is, subst (λ (m : ℕ). m < 2 ^ 16) parts.is small)
  where
    alone : (size : ℕ) → 0 < size → (1 < size → ⊥) → size ≡ 1
    alone zero some none = absurd (omega arith)
    alone (suc zero) some none = refl
    alone (suc (suc size)) some none = absurd (none (omega arith))

both_hold : (size n : ℕ) → 0 < size → n < 2 ^ 16 → (if nat_lt 0 size && nat_lt n (2 ^ 16) then Some n else None) ≡ Some n
both_hold size n some small = grind (arith, nat_tests)

pub decimal_spelled : (n : ℕ) → n < 2 ^ 16 → number_spelled (2 ^ 16) (decimal n) ≡ Some n
decimal_spelled n small =
    let wide : n < 2 ^ 64 = omega (arith, small) in
    rw (number_spelled-digits (2 ^ 16) _ (digits_decimal digits_model n wide), digits_value-decimal digits_model n wide)
    (both_hold (length (decimal n)) n (decimal_nonempty n wide) small)

pub no_leading : (n : ℕ) → n < 2 ^ 16 → (1 < length (decimal n)) × (slice_index (decimal n) 0 ≡ 48) → ⊥
no_leading zero small leading = let one = ap (length {A = ℕ}) (decimal_digit 0 (omega arith)) in let more = leading.0 in omega (arith, one, more)
no_leading (suc n) small leading =
    let first = first_decimal (suc n) (omega arith) (omega (arith, small)) in
    let zero_first : get_or (decimal (suc n)) 0 0 ≡ 48 = leading.1 in omega (arith, first, zero_first)

-- what a key's number reads as
pub number_read : {word : List ℕ} (digits : List ℕ) (found : Option ℕ) → word ≡ 107 ∷ 101 ∷ 121 ∷ digits → found ≡ number_spelled (2 ^ 16) digits
    → ((1 < length digits) × (slice_index digits 0 ≡ 48) → ⊥) → IfSome found (λ key. (word ≡ 107 ∷ 101 ∷ 121 ∷ decimal key) × (key < 2 ^ 16))
number_read digits None written is leading = tt
number_read digits (Some key) written is leading =
    let both = spelled_decimal digits key (sym is) leading in (written ∙ ap (λ (l : List ℕ). 107 ∷ 101 ∷ 121 ∷ l) both.0, both.1)

pub number_unread : {word : List ℕ} (digits : List ℕ) (found : Option ℕ) → word ≡ 107 ∷ 101 ∷ 121 ∷ digits → found ≡ number_spelled (2 ^ 16) digits
    → IfNone found ((key : ℕ) → key < 2 ^ 16 → word ≡ 107 ∷ 101 ∷ 121 ∷ decimal key → ⊥)
number_unread digits None written is = λ key small same.
    let digits_are : digits ≡ decimal key = cc in
    let read : None ≡ Some key = is ∙ ap (number_spelled (2 ^ 16)) digits_are ∙ decimal_spelled key small in absurd (cc)
number_unread digits (Some n) written is = tt

pub leading_unread : {word : List ℕ} (digits : List ℕ) → word ≡ 107 ∷ 101 ∷ 121 ∷ digits → (1 < length digits) × (slice_index digits 0 ≡ 48)
    → (key : ℕ) → key < 2 ^ 16 → word ≡ 107 ∷ 101 ∷ 121 ∷ decimal key → ⊥
leading_unread digits written leading key small same =
    let digits_are : digits ≡ decimal key = cc in
    no_leading key small (subst (λ (l : List ℕ). (1 < length l) × (slice_index l 0 ≡ 48)) digits_are leading)
