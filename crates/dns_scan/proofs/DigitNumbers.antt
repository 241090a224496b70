-- Numbers, read digit by digit, and those below a limit.
use Rattle.std.proofs.Common.{◌≡◌, ◌^◌, ◌<◌, ◌≤◌, ◌+◌, ◌*◌, ◌-◌, ℕ, true, false, nat_lt, List, [], length, take, get_or, None, Some, cond, refl, sym, ◌∙◌, arith, rules}
use Rattle.std.specs.Char.{is_ascii_digit, digit_value}
use Rattle.std.specs.List.{list_all}
use Rattle.std.specs.Str.Parse.{digits_value}
use Rattle.std.proofs.lemmas.Bool.Decides.{nat_tests}
use Rattle.std.proofs.lemmas.Grind.{common_steps}
use Rattle.std.proofs.lemmas.Int.Digits.{digits_value_more}
use Rattle.std.proofs.lemmas.List.{take_all}
use Rattle.std.proofs.lemmas.List.Folds.{list_all_at, list_all_more}
use Rattle.std.proofs.lemmas.Str.{digit_value_digit}
use Rattle.std.proofs.lemmas.Str.Parse.{digits_value-take-le}
use Rattle.dns_name.specs.Mnemonic.{number_spelled}
use Rattle.dns_name.proofs.Words.{number_spelled-other, number_spelled-digits}

-- an octet that is no digit
pub number_other : (limit : ℕ) (text : List ℕ) (place : ℕ) → place < length text → is_ascii_digit (get_or text place 0) ≡ false
    → number_spelled limit text ≡ None
number_other limit text place within other = number_spelled-other limit text (list_all_at is_ascii_digit text place 0 within other)

spelled_large : (limit : ℕ) (text : List ℕ) → limit ≤ digits_value 10 text → number_spelled limit text ≡ None
unfolding number_spelled
spelled_large limit text large = grind (arith, nat_tests)

-- the digits up to a place are a large number
pub number_large : (limit : ℕ) (text : List ℕ) (place : ℕ) → limit ≤ digits_value 10 (take place text) → number_spelled limit text ≡ None
number_large limit text place large =
    let more : digits_value 10 (take place text) ≤ digits_value 10 text = digits_value-take-le 10 text place (omega arith) in
    spelled_large limit text (omega arith)

digit_worth : (octet : ℕ) → is_ascii_digit octet ≡ true → digit_value octet ≡ octet - 48
digit_worth octet digit = let worth : digit_value octet + 48 ≡ octet = digit_value_digit octet (grind (arith, nat_tests)) in omega arith

pushed : (number value tenfold : ℕ) → tenfold ≡ number * 10 + value → 10 * number + value ≡ tenfold
pushed number value tenfold is = omega arith

-- one more digit
pub number_more : (text : List ℕ) (place number value : ℕ) → place < length text → is_ascii_digit (get_or text place 0) ≡ true
    → number ≡ digits_value 10 (take place text) → value ≡ get_or text place 0 - 48
    → 10 * number + value ≡ digits_value 10 (take (place + 1) text)
number_more text place number value within digit is read =
    let worth : value ≡ digit_value (get_or text place 0) = read ∙ sym (digit_worth (get_or text place 0) digit) in
    rw (is, worth) (pushed _ _ _ (digits_value_more 10 text place within))

pub digits_more : (text : List ℕ) (place : ℕ) → place < length text → is_ascii_digit (get_or text place 0) ≡ true
    → list_all is_ascii_digit (take place text) ≡ true → list_all is_ascii_digit (take (place + 1) text) ≡ true
digits_more text place within digit before = rw (list_all_more is_ascii_digit text place 0 within, before, digit) refl

-- no digits, and all of them
pub number_none : (limit : ℕ) (text : List ℕ) → length text ≡ 0 → number_spelled limit text ≡ None
unfolding number_spelled
number_none limit text none = grind (arith, nat_tests)

pub number_whole : (limit : ℕ) (text : List ℕ) (place number : ℕ) → length text ≤ place → 0 < length text
    → list_all is_ascii_digit (take place text) ≡ true → number ≡ digits_value 10 (take place text) → number < limit
    → number_spelled limit text ≡ Some number
number_whole limit text place number end some digits is below =
    let whole : take place text ≡ text = take_all place text end in
    let all : list_all is_ascii_digit text ≡ true = rw whole at digits in
    let value : number ≡ digits_value 10 text = rw whole at is in
    rw (number_spelled-digits limit text all) (grind (arith, nat_tests))

-- a number of 32 bits below a limit, and one that is not
pub number_below : (limit : ℕ) (text : List ℕ) (number : ℕ) → number_spelled (2 ^ 32) text ≡ Some number → number < limit
    → number_spelled limit text ≡ Some number
unfolding number_spelled
number_below limit text number is below = grind (arith, nat_tests)

pub number_past : (limit : ℕ) (text : List ℕ) (number : ℕ) → number_spelled (2 ^ 32) text ≡ Some number → limit ≤ number
    → number_spelled limit text ≡ None
unfolding number_spelled
number_past limit text number is past = grind (arith, nat_tests)

pub number_in_none : (limit : ℕ) (text : List ℕ) → limit ≤ 2 ^ 32 → number_spelled (2 ^ 32) text ≡ None → number_spelled limit text ≡ None
unfolding number_spelled
number_in_none limit text small none = grind (arith, nat_tests)
