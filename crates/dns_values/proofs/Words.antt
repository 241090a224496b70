-- Facts on words for numbers.
use Rattle.std.proofs.Common.{sym, Option, Bool, option_and_then, ◌≡◌, ◌<◌, ◌^◌, ℕ, true, false, List, length, Some, None, Result, Ok, Err, arith, refl, ap, map, take, drop, ◌++◌, ◌+◌, ◌≤◌, get_or, drop-cons, add-one, length-take, cond, nat_lt, ◌==◌, ◌&&◌, rules}
use Rattle.std.specs.Borrow.{Bor}
use Rattle.std.proofs.lemmas.List.{length-map, drop_all}
use Rattle.std.specs.Char.{is_ascii_digit, to_ascii_lowercase}
use Rattle.std.specs.List.{list_all}
use Rattle.std.specs.Result.{OkIff, result_ok}
use Rattle.std.specs.Str.{IsUtf8, str_eq_ignore_ascii_case}
use Rattle.std.proofs.lemmas.Slice.Eq.{bytes_eq-Decides}
use Rattle.std.specs.Str.Parse.{digits_value, ParsesUnsigned}
use Rattle.std.proofs.lemmas.Fmt.{IsAscii-from_digits}
use Rattle.std.proofs.lemmas.Str.{IsUtf8-from_ascii}
use Rattle.std.proofs.lemmas.Str.Parse.{IsNumeralModel, numerals_by_value, parse_digits}
use Rattle.std.proofs.lemmas.Bool.Decides.{nat_tests, Decides-eqb}
use Rattle.dns_values.specs.Mnemonic.{number_spelled, number_named, number_behind, rows_of, text_of, text_written, Mnemonics}
use Rattle.std.specs.Fmt.{decimal}

pub digits_model : IsNumeralModel (λ ds. list_all is_ascii_digit ds ≡ true) (digits_value 10)
digits_model = numerals_by_value _ (search rules)

pub IsUtf8-digits : (ds : List ℕ) → list_all is_ascii_digit ds ≡ true → IsUtf8 ds
IsUtf8-digits ds h = IsUtf8-from_ascii ds (IsAscii-from_digits ds (digits_model.to ds h))

-- what is no text of digits spells no number
pub number_spelled-other : (limit : ℕ) (ds : List ℕ) → list_all is_ascii_digit ds ≡ false → number_spelled limit ds ≡ None
unfolding number_spelled
number_spelled-other limit ds h = rw h refl

-- a text of digits spells its number, if that is below the limit
pub number_spelled-digits : (limit : ℕ) (ds : List ℕ) → list_all is_ascii_digit ds ≡ true
    → number_spelled limit ds ≡ cond (nat_lt 0 (length ds) && nat_lt (digits_value 10 ds) limit) (Some (digits_value 10 ds)) None
unfolding number_spelled
number_spelled-digits limit ds h = rw h refl

-- this number is what parsing returns
pub number_spelled-ok : {E : Type 0} (ds : List ℕ) (r : Result ℕ E) → list_all is_ascii_digit ds ≡ true
    → OkIff r ((0 < length ds) × (digits_value 10 ds < 2 ^ 32)) (digits_value 10 ds) → result_ok r ≡ number_spelled (2 ^ 32) ds
number_spelled-ok ds (Ok x) digits exact = rw number_spelled-digits (grind (arith, nat_tests))
number_spelled-ok ds (Err e) digits exact = rw number_spelled-digits (grind (arith, nat_tests))

pub number_spelled-parse : {E : Type 0} (ds : List ℕ) (r : Result ℕ E)
    → ParsesUnsigned 32 10 ds r → list_all is_ascii_digit ds ≡ true → result_ok r ≡ number_spelled (2 ^ 32) ds
number_spelled-parse ds r parsed digits = number_spelled-ok ds r digits (parse_digits digits_model 32 ds r parsed digits)

pub ruleset spelled_rules = (number_spelled-other, number_spelled-parse, IsUtf8-digits)

-- a lower limit leaves out what is not below it
limited-none : (test : Bool) (value : ℕ) → cond (test && nat_lt value (2 ^ 32)) (Some value) None ≡ None
    → cond (test && nat_lt value 65536) (Some value) None ≡ None
limited-none test value e = grind (arith, nat_tests)

limited-some : (test : Bool) (value n : ℕ) → cond (test && nat_lt value (2 ^ 32)) (Some value) None ≡ Some n
    → cond (test && nat_lt value 65536) (Some value) None ≡ cond (nat_lt n 65536) (Some n) None
limited-some test value n e = grind (arith, nat_tests)

pub number_spelled-short : (ds : List ℕ) (read : Option ℕ) → read ≡ number_spelled (2 ^ 32) ds
    → number_spelled 65536 ds ≡ option_and_then (λ n. cond (nat_lt n 65536) (Some n) None) read
unfolding number_spelled
number_spelled-short ds (Some n) e = limited-some (list_all is_ascii_digit ds && nat_lt 0 (length ds)) (digits_value 10 ds) n (sym e)
number_spelled-short ds None e = limited-none (list_all is_ascii_digit ds && nat_lt 0 (length ds)) (digits_value 10 ds) (sym e)

pub ruleset short_rules = (number_spelled-short)

-- two texts are the same up to ASCII case, or they are not
pub same_text : (a b : List ℕ) → map to_ascii_lowercase a ≡ map to_ascii_lowercase b → str_eq_ignore_ascii_case a b ≡ true
same_text a b e = (bytes_eq-Decides _ _).1 e

pub other_text : (a b : List ℕ) → (map to_ascii_lowercase a ≡ map to_ascii_lowercase b → ⊥) → str_eq_ignore_ascii_case a b ≡ false
other_text a b differ = elim (str_eq_ignore_ascii_case a b) as (λ v. str_eq_ignore_ascii_case a b ≡ v → v ≡ false) [ true ↦ (λ e. absurd (differ ((bytes_eq-Decides _ _).0 e))) | false ↦ (λ _. refl) ] refl

-- a word that is shorter than the prefix or begins otherwise is no prefix and number
pub number_behind-short : (prefix word : List ℕ) → length word < length prefix → number_behind prefix word ≡ None
unfolding number_behind
number_behind-short prefix word short =
    let differ : map to_ascii_lowercase prefix ≡ map to_ascii_lowercase (take (length prefix) word) → ⊥ =
    λ e. omega (arith, simp (length-map, length-take) at (ap length e)) in
    rw (other_text _ _ differ) refl

pub number_behind-other : (prefix word : List ℕ)
    → (map to_ascii_lowercase prefix ≡ map to_ascii_lowercase (take (length prefix) word) → ⊥) → number_behind prefix word ≡ None
unfolding number_behind
number_behind-other prefix word differ = rw (other_text _ _ differ) refl

pub number_behind-same : (prefix word : List ℕ)
    → map to_ascii_lowercase prefix ≡ map to_ascii_lowercase (take (length prefix) word)
    → number_behind prefix word ≡ number_spelled 65536 (drop (length prefix) word)
unfolding number_behind
number_behind-same prefix word same = rw (same_text _ _ same) refl

pub ruleset behind_rules = (number_behind-short, number_behind-other, number_behind-same)

-- a look-up stops at the word's own row, and goes on after a row of another word
pub number_named-hit : (table : List (ℕ × Bor (List ℕ))) (word : List ℕ) (i : ℕ) (d : ℕ × Bor (List ℕ)) → i < length table
    → map to_ascii_lowercase (get_or table i d).1.now ≡ map to_ascii_lowercase word
    → number_named (rows_of (drop i table)) word ≡ Some (get_or table i d).0
unfolding number_named
number_named-hit table word i d within same = rw (drop-cons table i d within, same_text _ _ same) refl

pub number_named-miss : (table : List (ℕ × Bor (List ℕ))) (word : List ℕ) (i : ℕ) (d : ℕ × Bor (List ℕ)) → i < length table
    → (map to_ascii_lowercase (get_or table i d).1.now ≡ map to_ascii_lowercase word → false ≡ true)
    → number_named (rows_of (drop i table)) word ≡ number_named (rows_of (drop (i + 1) table)) word
unfolding number_named
number_named-miss table word i d within differ =
    let apart : map to_ascii_lowercase (get_or table i d).1.now ≡ map to_ascii_lowercase word → ⊥ = λ same. let e : false ≡ true = differ same in cc in
    rw (drop-cons table i d within, other_text _ _ apart, add-one) refl

pub number_named-none : (table : List (ℕ × Bor (List ℕ))) (word : List ℕ) (i : ℕ) → length table ≤ i
    → number_named (rows_of (drop i table)) word ≡ None
unfolding number_named
number_named-none table word i past = rw (drop_all i table past) refl

pub ruleset named_rules = (number_named-hit, number_named-miss, number_named-none)

-- the same for the text of a number
pub text_of-hit : (table : List (ℕ × Bor (List ℕ))) (number i : ℕ) (d : ℕ × Bor (List ℕ)) → i < length table
    → (get_or table i d).0 ≡ number → text_of (rows_of (drop i table)) number ≡ Some (get_or table i d).1.now
unfolding text_of
text_of-hit table number i d within same = rw (drop-cons table i d within, (Decides-eqb _ _).1 same) refl

pub text_of-miss : (table : List (ℕ × Bor (List ℕ))) (number i : ℕ) (d : ℕ × Bor (List ℕ)) → i < length table
    → ((get_or table i d).0 ≡ number → ⊥) → text_of (rows_of (drop i table)) number ≡ text_of (rows_of (drop (i + 1) table)) number
unfolding text_of
text_of-miss table number i d within differ =
    let apart : ((get_or table i d).0 == number) ≡ false = grind (arith, nat_tests) in
    rw (drop-cons table i d within, apart, add-one) refl

pub text_of-none : (table : List (ℕ × Bor (List ℕ))) (number i : ℕ) → length table ≤ i → text_of (rows_of (drop i table)) number ≡ None
unfolding text_of
text_of-none table number i past = rw (drop_all i table past) refl

pub ruleset text_rules = (text_of-hit, text_of-miss, text_of-none)

-- a number with a mnemonic is written as it, and another one after the prefix
pub text_written-named : (table : Mnemonics) (prefix text : List ℕ) (number : ℕ)
    → Some text ≡ text_of table number → text_written table prefix number ≡ text
unfolding text_written
text_written-named table prefix _ number named = rw (← named) refl

pub text_written-other : (table : Mnemonics) (prefix : List ℕ) (number : ℕ)
    → None ≡ text_of table number → text_written table prefix number ≡ prefix ++ decimal number
unfolding text_written
text_written-other table prefix number unnamed = rw (← unnamed) refl

pub ruleset written_rules = (text_written-named, text_written-other)
