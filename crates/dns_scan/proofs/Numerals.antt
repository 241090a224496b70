-- Digits that are parsed.
use Rattle.std.proofs.Common.{◌≡◌, ◌<◌, ◌^◌, ℕ, true, List, length, Result, Ok, Err, arith}
use Rattle.std.specs.Char.{is_ascii_digit}
use Rattle.std.specs.List.{list_all}
use Rattle.std.specs.Result.{OkIff, result_ok}
use Rattle.std.specs.Str.Parse.{digits_value, ParsesUnsigned}
use Rattle.std.proofs.lemmas.Str.Parse.{parse_digits}
use Rattle.std.proofs.lemmas.Bool.Decides.{nat_tests}
use Rattle.dns_name.specs.Mnemonic.{number_spelled}
use Rattle.dns_name.proofs.Words.{digits_model, number_spelled-other, number_spelled-digits}

-- what is parsed of digits is what they spell
spelled_ok : {E : Type 0} (limit : ℕ) (ds : List ℕ) (r : Result ℕ E) → list_all is_ascii_digit ds ≡ true
    → OkIff r ((0 < length ds) × (digits_value 10 ds < limit)) (digits_value 10 ds) → result_ok r ≡ number_spelled limit ds
spelled_ok limit ds (Ok x) digits exact = rw number_spelled-digits (grind (arith, nat_tests))
spelled_ok limit ds (Err e) digits exact = rw number_spelled-digits (grind (arith, nat_tests))

pub spelled_64 : {E : Type 0} (ds : List ℕ) (r : Result ℕ E) → ParsesUnsigned 64 10 ds r → list_all is_ascii_digit ds ≡ true
    → result_ok r ≡ number_spelled (2 ^ 64) ds
spelled_64 ds r parsed digits = spelled_ok (2 ^ 64) ds r digits (parse_digits digits_model 64 ds r parsed digits)

pub spelled_128 : {E : Type 0} (ds : List ℕ) (r : Result ℕ E) → ParsesUnsigned 128 10 ds r → list_all is_ascii_digit ds ≡ true
    → result_ok r ≡ number_spelled (2 ^ 128) ds
spelled_128 ds r parsed digits = spelled_ok (2 ^ 128) ds r digits (parse_digits digits_model 128 ds r parsed digits)

pub ruleset spelled_rules = (number_spelled-other, spelled_64, spelled_128)
