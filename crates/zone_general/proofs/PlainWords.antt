-- A word for a type is plain: it has no backslash.
use Rattle.std.proofs.Common.{◌≡◌, ◌&&◌, ◌++◌, ◌∙◌, ℕ, Bool, true, false, List, [], ◌∷◌, length, take, drop, map, codes, nat_lt, Some, None, inl, inr, refl, sym, ap, subst, arith, take-append-drop}
use Rattle.std.specs.Prelude.{if◌then◌else◌}
use Rattle.std.specs.Char.{is_ascii_digit, to_ascii_lowercase}
use Rattle.std.specs.List.{list_all}
use Rattle.std.specs.Str.{str_eq_ignore_ascii_case}
use Rattle.std.specs.Str.Parse.{digits_value}
use Rattle.std.proofs.lemmas.Bool.Decides.{nat_tests}
use Rattle.std.proofs.lemmas.Slice.Eq.{bytes_eq-Decides}
use Rattle.dns_label.specs.Symbol.{is_plain}
use Rattle.dns_values.specs.Mnemonic.{Mnemonics, types, number_spelled, number_behind, number_named, number_read, type_read}
use Rattle.zone_general.proofs.KnownWords.{both_hold, either, named_in}

and_holds : (a b : Bool) → a ≡ true → b ≡ true → (a && b) ≡ true
and_holds a b is also = rw is also

-- in lower case
abbrev plain_small : ℕ → Bool
plain_small octet = is_plain (to_ascii_lowercase octet)

plain_one : (octet : ℕ) → plain_small octet ≡ true → is_plain octet ≡ true
plain_one octet is = grind (arith, nat_tests)

plain_digit : (octet : ℕ) → is_ascii_digit octet ≡ true → is_plain octet ≡ true
plain_digit octet is = grind (arith, nat_tests)

plain_alike : (a b : List ℕ) → map to_ascii_lowercase a ≡ map to_ascii_lowercase b → list_all plain_small a ≡ true → list_all is_plain b ≡ true
plain_alike [] [] same each = refl
plain_alike [] (octet ∷ b) same each = absurd cc
plain_alike (octet ∷ a) [] same each = absurd cc
plain_alike (octet ∷ a) (other ∷ b) same each =
    let first : to_ascii_lowercase octet ≡ to_ascii_lowercase other = cc in
    let behind : map to_ascii_lowercase a ≡ map to_ascii_lowercase b = cc in
    let both = both_hold (plain_small octet) (list_all plain_small a) each in
    and_holds (is_plain other) (list_all is_plain b) (plain_one other (ap is_plain (sym first) ∙ both.0)) (plain_alike a b behind both.1)

plain_digits : (text : List ℕ) → list_all is_ascii_digit text ≡ true → list_all is_plain text ≡ true
plain_digits [] each = refl
plain_digits (octet ∷ text) each =
    let both = both_hold (is_ascii_digit octet) (list_all is_ascii_digit text) each in
    and_holds (is_plain octet) (list_all is_plain text) (plain_digit octet both.0) (plain_digits text both.1)

plain_append : (a b : List ℕ) → list_all is_plain a ≡ true → list_all is_plain b ≡ true → list_all is_plain (a ++ b) ≡ true
plain_append [] b each also = also
plain_append (octet ∷ a) b each also =
    let both = both_hold (is_plain octet) (list_all is_plain a) each in
    and_holds (is_plain octet) (list_all is_plain (a ++ b)) both.0 (plain_append a b both.1 also)

-- a mnemonic
named_plain : (table : Mnemonics) (word : List ℕ) (n : ℕ) → list_all (λ row. list_all plain_small row.1) table ≡ true
    → number_named table word ≡ Some n → list_all is_plain word ≡ true
named_plain table word n each is =
    let named = named_in (λ row. list_all plain_small row.1) table word n each is in plain_alike named.row.1 word named.same named.passes

-- a number behind a prefix
spelled_plain : (limit : ℕ) (text : List ℕ) (n : ℕ) → number_spelled limit text ≡ Some n → list_all is_plain text ≡ true
unfolding number_spelled
spelled_plain limit text n is = by (list_all is_ascii_digit text) refl (nat_lt 0 (length text)) (digits_value 10 text) is
  where
    by : (digits : Bool) → list_all is_ascii_digit text ≡ digits → (some : Bool) (value : ℕ)
        → (if (digits && some) && nat_lt value limit then Some value else None) ≡ Some n → list_all is_plain text ≡ true
    by true each some value found = plain_digits text each
    by false each some value found = absurd cc

behind_plain : (prefix word : List ℕ) (n : ℕ) → list_all plain_small prefix ≡ true → number_behind prefix word ≡ Some n → list_all is_plain word ≡ true
unfolding number_behind
behind_plain prefix word n each is = by (str_eq_ignore_ascii_case prefix (take (length prefix) word)) refl is
  where
    by : (same : Bool) → str_eq_ignore_ascii_case prefix (take (length prefix) word) ≡ same
        → (if same then number_spelled 65536 (drop (length prefix) word) else None) ≡ Some n → list_all is_plain word ≡ true
    by true same found =
        subst (λ (l : List ℕ). list_all is_plain l ≡ true) (take-append-drop (length prefix) word)
        (plain_append (take (length prefix) word) (drop (length prefix) word) (plain_alike prefix _ ((bytes_eq-Decides _ _).0 same) each)
        (spelled_plain 65536 (drop (length prefix) word) n found))
    by false same found = absurd cc

types_plain : list_all (λ row. list_all plain_small row.1) types ≡ true
unfolding types
types_plain = refl

pub type_plain : (word : List ℕ) (n : ℕ) → type_read word ≡ Some n → list_all is_plain word ≡ true
unfolding number_read
type_plain word n is =
    elim (either (number_behind (codes "TYPE") word) (number_named types word) n is) [
      | inl found ↦ behind_plain (codes "TYPE") word n refl found
      | inr found ↦ named_plain types word n types_plain found
    ]
