-- Facts on words for algorithms and types of certificates.
use Rattle.std.proofs.Common.{◌≡◌, ◌<◌, ◌^◌, ◌&&◌, ℕ, Bool, true, false, cond, List, [], ◌∷◌, length, Option, Some, None, option_map, find, refl, sym, ap, ◌∙◌, arith}
use Rattle.std.specs.Prelude.{Result, Ok, Err, decimal, nat_lt, if◌then◌else◌}
use Rattle.std.specs.List.{list_all}
use Rattle.std.specs.Result.{OkIff, result_ok}
use Rattle.std.specs.Str.{str_eq_ignore_ascii_case}
use Rattle.std.proofs.lemmas.Bool.Decides.{nat_tests}
use Rattle.std.proofs.lemmas.Fmt.{decimal_nonempty, digits_decimal, digits_value-decimal}
use Rattle.dns_values.specs.Mnemonic.{Mnemonics, number_named, number_spelled}
use Rattle.dns_values.proofs.Words.{digits_model, number_spelled-digits}
use Rattle.dns_field_texts.specs.NumberedWords.{algorithm_read, algorithms, certificate_type_read}

-- the number of a mnemonic is one of the table
named_below : (table : Mnemonics) (word : List ℕ) (n : ℕ) → list_all (λ row. nat_lt row.0 256) table ≡ true
    → number_named table word ≡ Some n → n < 256
unfolding number_named
named_below [] word n small named = absurd (cc)
named_below (row ∷ rows) word n small named =
    elim (str_eq_ignore_ascii_case row.1 word) as (λ v. option_map {T = ℕ × List ℕ} (λ row. row.0)
    (cond v (Some row) (find (λ row. str_eq_ignore_ascii_case row.1 word) rows)) ≡ Some n → n < 256) [
      | true ↦ (λ e. let same : row.0 ≡ n = cc in grind (arith, nat_tests))
      | false ↦ (λ e. named_below rows word n (and_right _ _ small) e)
    ] named
  where
    and_right : (a b : Bool) → (a && b) ≡ true → b ≡ true
    and_right true b e = e
    and_right false b e = cc

-- an algorithm with a mnemonic has 8 bits
algorithm_small : (word : List ℕ) (n : ℕ) → number_named algorithms word ≡ Some n → n < 256
unfolding algorithms
algorithm_small word n named = named_below algorithms word n refl named

pub algorithm_narrowed : {E : Type 0} (word : List ℕ) (n : ℕ) (narrowed : Result ℕ E) → number_named algorithms word ≡ Some n
    → OkIff narrowed (n < 2 ^ 8) n → result_ok narrowed ≡ number_named algorithms word
algorithm_narrowed word n (Ok m) named exact = ap Some exact.1 ∙ sym named
algorithm_narrowed word n (Err error) named exact = absurd (exact (algorithm_small word n named))

-- a number in digits spells itself
both_hold : (size n limit : ℕ) → 0 < size → n < limit → (if nat_lt 0 size && nat_lt n limit then Some n else None) ≡ Some n
both_hold size n limit some small = grind (arith, nat_tests)

decimal_spelled : (limit n : ℕ) → n < limit → n < 2 ^ 64 → number_spelled limit (decimal n) ≡ Some n
decimal_spelled limit n small wide =
    rw (number_spelled-digits limit _ (digits_decimal digits_model n wide), digits_value-decimal digits_model n wide)
    (both_hold (length (decimal n)) n limit (decimal_nonempty n wide) small)

-- and so it reads, as an algorithm and as a type of certificate
pub algorithm_reads_back : (n : ℕ) → n < 2 ^ 8 → algorithm_read (decimal n) ≡ Some n
unfolding algorithm_read
algorithm_reads_back n small = rw (decimal_spelled (2 ^ 8) n small (omega (arith, small))) refl

pub certificate_type_reads_back : (n : ℕ) → n < 2 ^ 16 → certificate_type_read (decimal n) ≡ Some n
unfolding certificate_type_read
certificate_type_reads_back n small = rw (decimal_spelled (2 ^ 16) n small (omega (arith, small))) refl
