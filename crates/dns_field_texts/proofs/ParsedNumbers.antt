-- Numbers of one and of two octets that std parses.
use Rattle.std.proofs.Common.{◌≡◌, ◌<◌, ◌^◌, ℕ, true, List, length, Result, Ok, Err, arith}
use Rattle.std.specs.Char.{is_ascii_digit}
use Rattle.std.specs.List.{list_all}
use Rattle.std.specs.Result.{OkIff, result_ok}
use Rattle.std.specs.Str.Parse.{digits_value, ParsesUnsigned}
use Rattle.std.proofs.lemmas.Str.Parse.{parse_digits}
use Rattle.std.proofs.lemmas.Bool.Decides.{nat_tests}
use Rattle.dns_values.specs.Mnemonic.{number_spelled}
use Rattle.dns_values.proofs.Words.{digits_model, number_spelled-other, number_spelled-digits}

-- what is parsed of digits is what they spell
parsed : {E : Type 0} (limit : ℕ) (ds : List ℕ) (r : Result ℕ E) → list_all is_ascii_digit ds ≡ true
    → OkIff r ((0 < length ds) × (digits_value 10 ds < limit)) (digits_value 10 ds) → result_ok r ≡ number_spelled limit ds
parsed limit ds (Ok x) digits exact = rw number_spelled-digits (grind (arith, nat_tests))
parsed limit ds (Err e) digits exact = rw number_spelled-digits (grind (arith, nat_tests))

pub parsed_8 : {E : Type 0} (ds : List ℕ) (r : Result ℕ E) → ParsesUnsigned 8 10 ds r → list_all is_ascii_digit ds ≡ true
    → result_ok r ≡ number_spelled (2 ^ 8) ds
parsed_8 ds r is digits = parsed (2 ^ 8) ds r digits (parse_digits digits_model 8 ds r is digits)

pub parsed_16 : {E : Type 0} (ds : List ℕ) (r : Result ℕ E) → ParsesUnsigned 16 10 ds r → list_all is_ascii_digit ds ≡ true
    → result_ok r ≡ number_spelled (2 ^ 16) ds
parsed_16 ds r is digits = parsed (2 ^ 16) ds r digits (parse_digits digits_model 16 ds r is digits)

pub ruleset parsed_rules = (number_spelled-other, parsed_8, parsed_16)
