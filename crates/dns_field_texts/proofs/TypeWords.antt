-- Facts on words for types: what is written, and that it reads back.
use Rattle.std.proofs.Common.{◌≡◌, ◌<◌, ◌==◌, ◌&&◌, ℕ, Bool, true, false, cond, List, [], ◌∷◌, Option, Some, None, option_map, find, refl, sym, ap, ◌∙◌, ◌++◌, codes, arith}
use Rattle.std.specs.Option.{option_map_or}
use Rattle.std.specs.List.{list_all}
use Rattle.std.specs.Char.{is_ascii_digit}
use Rattle.std.specs.Fmt.{decimal}
use Rattle.std.proofs.lemmas.Fmt.{digits_decimal}
use Rattle.std.proofs.lemmas.Bool.Decides.{nat_tests, Decides-eqb}
use Rattle.dns_label.specs.Symbol.{is_plain}
use Rattle.dns_values.specs.Mnemonic.{Mnemonics, types, number_spelled, number_behind, number_named, number_read, text_of, type_written}
use Rattle.dns_values.proofs.Words.{digits_model, text_written-named, text_written-other}
use Rattle.dns_values.proofs.ReadsBack.{type_reads_back}
use Rattle.dns_field_texts.specs.TypeWords.{more_types, type_word_read, type_word_written}

-- a type with a mnemonic is written as it, and another one as `Rtype` is
pub type_word_written-named : (number : ℕ) (text : List ℕ) → Some text ≡ text_of more_types number → type_word_written number ≡ text
unfolding type_word_written
type_word_written-named number text named = rw (← named) refl

pub type_word_written-other : (number : ℕ) → None ≡ text_of more_types number → type_word_written number ≡ type_written number
unfolding type_word_written
type_word_written-other number unnamed = rw (← unnamed) refl

pub ruleset written_rules = (type_word_written-named, type_word_written-other)

-- each mnemonic of the table reads as its number
reads_own : Mnemonics → Bool
reads_own table = list_all (λ row. option_map_or (λ number. number == row.0) (type_word_read row.1) false) table

types_own : reads_own more_types ≡ true
unfolding reads_own more_types type_word_read types number_read number_behind number_named number_spelled
types_own = refl

and_left : (a b : Bool) → (a && b) ≡ true → a ≡ true
and_left true b e = refl
and_left false b e = e

and_right : (a b : Bool) → (a && b) ≡ true → b ≡ true
and_right true b e = e
and_right false b e = cc

is_number : (read : Option ℕ) (number : ℕ) → option_map_or (λ m. m == number) read false ≡ true → read ≡ Some number
is_number (Some m) number e = ap Some ((Decides-eqb m number).0 e)
is_number None number e = cc

-- a text that is found in a table whose own texts read as their numbers reads as the number
read_found : (table : Mnemonics) (number : ℕ) (text : List ℕ) → text_of table number ≡ Some text
    → reads_own table ≡ true → type_word_read text ≡ Some number
unfolding reads_own text_of
read_found [] number text named own = cc
read_found (row ∷ rows) number text named own =
    elim (row.0 == number) as (λ v. (row.0 == number) ≡ v → option_map (λ row. row.1) (cond v (Some row) (find (λ row. row.0 == number) rows)) ≡ Some text → type_word_read text ≡ Some number) [
      | true ↦ (λ is e.
          let read = is_number (type_word_read row.1) row.0 (and_left _ _ own) in
          let same : row.0 ≡ number = (Decides-eqb row.0 number).0 is in
          let texts : row.1 ≡ text = cc in
          ap type_word_read (sym texts) ∙ read ∙ ap Some same)
      | false ↦ (λ is e. read_found rows number text e (and_right _ _ own))
    ] refl named

other_read : (number : ℕ) → number < 65536 → type_word_read (type_written number) ≡ Some number
unfolding type_word_read
other_read number small = rw (type_reads_back number small) refl

-- what is written of a type reads as it
pub type_word_reads_back : (number : ℕ) → number < 65536 → type_word_read (type_word_written number) ≡ Some number
type_word_reads_back number small = by_text (text_of more_types number) refl
  where
    by_text : (text : Option (List ℕ)) → text_of more_types number ≡ text → type_word_read (type_word_written number) ≡ Some number
    by_text (Some text) named =
        ap type_word_read (type_word_written-named number text (sym named)) ∙ read_found more_types number text named types_own
    by_text None unnamed = ap type_word_read (type_word_written-other number (sym unnamed)) ∙ other_read number small

-- a text that is found in a table has what all texts of the table have
text_found : (table : Mnemonics) (number : ℕ) (text : List ℕ) (test : List ℕ → Bool) → text_of table number ≡ Some text
    → list_all (λ row. test row.1) table ≡ true → test text ≡ true
unfolding text_of
text_found [] number text test named all = cc
text_found (row ∷ rows) number text test named all =
    elim (row.0 == number) as (λ v. option_map {T = ℕ × List ℕ} (λ row. row.1) (cond v (Some row) (find (λ row. row.0 == number) rows)) ≡ Some text
    → test text ≡ true) [
      | true ↦ (λ e. let same : row.1 ≡ text = cc in ap test (sym same) ∙ and_left _ _ all)
      | false ↦ (λ e. text_found rows number text test e (and_right _ _ all))
    ] named

-- what is written of a type is printable, without a backslash
more_plain : list_all (λ row. list_all is_plain row.1) more_types ≡ true
unfolding more_types
more_plain = refl

types_plain : list_all (λ row. list_all is_plain row.1) types ≡ true
unfolding types
types_plain = refl

plain_digit : (c : ℕ) → is_ascii_digit c ≡ true → is_plain c ≡ true
plain_digit c digit = grind (arith, nat_tests)

plain_digits : (digits : List ℕ) → list_all is_ascii_digit digits ≡ true → list_all is_plain digits ≡ true
plain_digits [] all = refl
plain_digits (c ∷ digits) all = rw (plain_digit c (and_left _ _ all)) (plain_digits digits (and_right _ _ all))

plain_numbered : (number : ℕ) → number < 65536 → list_all is_plain (codes "TYPE" ++ decimal number) ≡ true
plain_numbered number small = plain_digits (decimal number) (digits_decimal digits_model number (omega arith))

plain_written : (number : ℕ) → number < 65536 → list_all is_plain (type_written number) ≡ true
plain_written number small = by_text (text_of types number) refl
  where
    by_text : (text : Option (List ℕ)) → text_of types number ≡ text → list_all is_plain (type_written number) ≡ true
    by_text (Some text) named =
        ap (list_all is_plain) (text_written-named types (codes "TYPE") text number (sym named)) ∙ text_found types number text (list_all is_plain) named types_plain
    by_text None unnamed = ap (list_all is_plain) (text_written-other types (codes "TYPE") number (sym unnamed)) ∙ plain_numbered number small

pub type_word_plain : (number : ℕ) → number < 65536 → list_all is_plain (type_word_written number) ≡ true
type_word_plain number small = by_text (text_of more_types number) refl
  where
    by_text : (text : Option (List ℕ)) → text_of more_types number ≡ text → list_all is_plain (type_word_written number) ≡ true
    by_text (Some text) named =
        ap (list_all is_plain) (type_word_written-named number text (sym named)) ∙ text_found more_types number text (list_all is_plain) named more_plain
    by_text None unnamed = ap (list_all is_plain) (type_word_written-other number (sym unnamed)) ∙ plain_written number small
