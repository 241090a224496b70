-- Numbers that words of a zone file spell fit.
use Rattle.std.proofs.Common.{◌≡◌, ◌∙◌, ℕ, ◌<◌, ◌^◌, Bool, true, false, cond, ◌&&◌, nat_lt, List, [], ◌∷◌, length, take, drop, Option, Some, None, codes, find, refl, ap, arith, rules}
use Rattle.std.specs.List.{AllByRecursion, list_all}
use Rattle.std.specs.Char.{is_ascii_digit}
use Rattle.std.specs.Option.{option_map, option_or}
use Rattle.std.specs.Str.{str_eq_ignore_ascii_case}
use Rattle.std.specs.Str.Parse.{digits_value}
use Rattle.std.proofs.lemmas.Bool.Decides.{nat_tests}
use Rattle.dns_values.specs.Mnemonic.{Mnemonics, number_behind, number_named, number_read, number_spelled, type_read, types}

limited : (test : Bool) (value n limit : ℕ) → cond (test && nat_lt value limit) (Some value) None ≡ Some n → n < limit
limited test value n limit e = grind (arith, nat_tests)

-- digits
pub spelled_small : (limit : ℕ) (text : List ℕ) (n : ℕ) → number_spelled limit text ≡ Some n → n < limit
unfolding number_spelled
spelled_small limit text n is = limited (list_all is_ascii_digit text && nat_lt 0 (length text)) (digits_value 10 text) n limit is

-- the number of a row of a table, or of one of the rows after it
first_small : (limit n : ℕ) (row : ℕ × List ℕ) (rest : Option (ℕ × List ℕ)) (here : Bool) → row.0 < limit
    → (option_map (λ (r : ℕ × List ℕ). r.0) rest ≡ Some n → n < limit)
    → option_map (λ (r : ℕ × List ℕ). r.0) (cond here (Some row) rest) ≡ Some n → n < limit
first_small limit n row rest true small others is =
    let same : row.0 ≡ n = cc (is) in omega (arith, same, small)
first_small limit n row rest false small others is = others is

found_small : (limit : ℕ) (p : ℕ × List ℕ → Bool) (table : Mnemonics) (n : ℕ) → AllByRecursion (λ (row : ℕ × List ℕ). row.0 < limit) table
    → option_map (λ (row : ℕ × List ℕ). row.0) (find p table) ≡ Some n → n < limit
found_small limit p [] n each is = absurd cc
found_small limit p (row ∷ table) n each is =
    first_small limit n row (find p table) (p row) each.0 (found_small limit p table n each.1) is

named_small : (table : Mnemonics) (word : List ℕ) (n : ℕ) → AllByRecursion (λ (row : ℕ × List ℕ). row.0 < 2 ^ 16) table
    → number_named table word ≡ Some n → n < 2 ^ 16
unfolding number_named
named_small table word n each is = found_small (2 ^ 16) (λ row. str_eq_ignore_ascii_case row.1 word) table n each is

behind_small : (prefix word : List ℕ) (n : ℕ) → number_behind prefix word ≡ Some n → n < 2 ^ 16
unfolding number_behind
behind_small prefix word n is = by (str_eq_ignore_ascii_case prefix (take (length prefix) word)) is
  where
    by : (here : Bool) → cond here (number_spelled 65536 (drop (length prefix) word)) None ≡ Some n → n < 2 ^ 16
    by true is = spelled_small 65536 (drop (length prefix) word) n is
    by false is = absurd cc

read_small : (table : Mnemonics) (prefix word : List ℕ) (n : ℕ) → AllByRecursion (λ (row : ℕ × List ℕ). row.0 < 2 ^ 16) table
    → number_read table prefix word ≡ Some n → n < 2 ^ 16
unfolding number_read
read_small table prefix word n each is = by (number_behind prefix word) refl is
  where
    by : (o : Option ℕ) → number_behind prefix word ≡ o → option_or o (number_named table word) ≡ Some n → n < 2 ^ 16
    by (Some m) was is =
        let same : m ≡ n = cc in behind_small prefix word n (was ∙ ap Some same)
    by None was is = named_small table word n each is

types_small : AllByRecursion (λ (row : ℕ × List ℕ). row.0 < 2 ^ 16) types
unfolding types
types_small = search rules

-- types
pub type_small : (word : List ℕ) (n : ℕ) → type_read word ≡ Some n → n < 2 ^ 16
type_small word n is = read_small types (codes "TYPE") word n types_small is
