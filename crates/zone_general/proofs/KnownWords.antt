-- Words for types that zone readers know which know no further types.
use Rattle.std.proofs.Common.{◌≡◌, ◌⊎◌, ◌<◌, ◌&&◌, ◌++◌, ◌∙◌, ℕ, zero, suc, Bool, true, false, List, [], ◌∷◌, length, take, drop, find, map, codes, decimal, nat_lt, is_some, Option, Some, None, option_map, inl, inr, refl, sym, ap, arith}
use Rattle.std.specs.Prelude.{if◌then◌else◌}
use Rattle.std.specs.Char.{is_ascii_digit, to_ascii_lowercase}
use Rattle.std.specs.List.{list_all}
use Rattle.std.specs.Option.{option_or}
use Rattle.std.specs.Str.{str_eq_ignore_ascii_case}
use Rattle.std.specs.Str.Parse.{digits_value}
use Rattle.std.proofs.lemmas.Bool.Decides.{nat_tests}
use Rattle.std.proofs.lemmas.Slice.Eq.{bytes_eq-Decides}
use Rattle.dns_values.specs.Mnemonic.{Mnemonics, types, number_spelled, number_behind, number_named, number_read, text_of, type_read}
use Rattle.dns_values.proofs.Words.{text_written-other}
use Rattle.dns_values.proofs.ReadsBack.{reads_back, reads_own}
use Rattle.dns_scan.specs.Token.{Token}
use Rattle.dns_field_texts.specs.TypeWords.{more_types, type_word_read}
use Rattle.zone_general.specs.LongerRow.{IsTypeWord, known_word}

pub both_hold : (a b : Bool) → (a && b) ≡ true → (a ≡ true) × (b ≡ true)
both_hold true b both = (refl, both)
both_hold false b both = absurd cc

-- the row of a table whose mnemonic is the word
pub record Named (test : ℕ × List ℕ → Bool) (word : List ℕ) (n : ℕ) : Type 0 where
  pub row : ℕ × List ℕ
  pub passes : test row ≡ true
  pub number : row.0 ≡ n
  pub same : map to_ascii_lowercase row.1 ≡ map to_ascii_lowercase word

pub named_in : (test : ℕ × List ℕ → Bool) (table : Mnemonics) (word : List ℕ) (n : ℕ) → list_all test table ≡ true
    → number_named table word ≡ Some n → Named test word n
unfolding number_named
named_in test [] word n each is = absurd cc
named_in test (row ∷ table) word n each is =
    by (str_eq_ignore_ascii_case row.1 word) refl (both_hold (test row) (list_all test table) each) (named_in test table word n) is
  where
    by : (same : Bool) → str_eq_ignore_ascii_case row.1 word ≡ same → (test row ≡ true) × (list_all test table ≡ true)
        → (list_all test table ≡ true → option_map (λ row. row.0) (find (λ row. str_eq_ignore_ascii_case row.1 word) table) ≡ Some n → Named test word n)
        → option_map (λ row. row.0) (if same then Some row else find (λ row. str_eq_ignore_ascii_case row.1 word) table) ≡ Some n → Named test word n
    by true same each others found =
        record { row = row; passes = each.0; number = (cc); same = (bytes_eq-Decides _ _).0 same }
    by false same each others found = others each.1 found

-- the number behind a prefix
pub record Behind (prefix word : List ℕ) (n : ℕ) : Type 0 where
  pub below : n < 65536
  pub same : map to_ascii_lowercase prefix ≡ map to_ascii_lowercase (take (length prefix) word)

spelled_below : (limit : ℕ) (text : List ℕ) (n : ℕ) → number_spelled limit text ≡ Some n → n < limit
unfolding number_spelled
spelled_below limit text n is = by (list_all is_ascii_digit text && nat_lt 0 (length text)) (digits_value 10 text) is
  where
    by : (test : Bool) (value : ℕ) → (if test && nat_lt value limit then Some value else None) ≡ Some n → n < limit
    by test value found = grind (arith, nat_tests)

pub behind_in : (prefix word : List ℕ) (n : ℕ) → number_behind prefix word ≡ Some n → Behind prefix word n
unfolding number_behind
behind_in prefix word n is = by (str_eq_ignore_ascii_case prefix (take (length prefix) word)) refl is
  where
    by : (same : Bool) → str_eq_ignore_ascii_case prefix (take (length prefix) word) ≡ same
        → (if same then number_spelled 65536 (drop (length prefix) word) else None) ≡ Some n → Behind prefix word n
    by true same found = record { below = spelled_below 65536 (drop (length prefix) word) n found; same = (bytes_eq-Decides _ _).0 same }
    by false same found = absurd cc

pub either : (first second : Option ℕ) (n : ℕ) → option_or first second ≡ Some n → (first ≡ Some n) ⊎ (second ≡ Some n)
either (Some m) second n is = inl is
either None second n is = inr is

-- the first character is a letter
abbrev pub begins_letter : List ℕ → Bool
begins_letter [] = false
begins_letter (c ∷ text) = nat_lt 96 (to_ascii_lowercase c)

pub letter_alike : (a b : List ℕ) → map to_ascii_lowercase a ≡ map to_ascii_lowercase b → begins_letter a ≡ begins_letter b
letter_alike [] [] same = refl
letter_alike [] (c ∷ b) same = absurd cc
letter_alike (c ∷ a) [] same = absurd cc
letter_alike (c ∷ a) (d ∷ b) same =
    let first : to_ascii_lowercase c ≡ to_ascii_lowercase d = cc in ap (λ (n : ℕ). nat_lt 96 n) first

letter_taken : (count : ℕ) (text : List ℕ) → begins_letter (take count text) ≡ true → begins_letter text ≡ true
letter_taken count [] is = absurd (by count is)
  where
    by : (n : ℕ) → begins_letter (take n []) ≡ true → ⊥
    by zero is = cc
    by (suc n) is = cc
letter_taken zero (c ∷ text) is = absurd cc
letter_taken (suc count) (c ∷ text) is = is

pub no_digit : (c : ℕ) → nat_lt 96 (to_ascii_lowercase c) ≡ true → is_ascii_digit c ≡ false
no_digit c is = grind (arith, nat_tests)

pub letter_no_digits : (text : List ℕ) → begins_letter text ≡ true → list_all is_ascii_digit text ≡ false
letter_no_digits [] is = absurd cc
letter_no_digits (c ∷ text) is = ap (λ (b : Bool). b && list_all is_ascii_digit text) (no_digit c is)

types_letters : list_all (λ row. begins_letter row.1) types ≡ true
unfolding types
types_letters = refl

-- a word for a type begins with a letter
pub type_letter : (text : List ℕ) (n : ℕ) → type_read text ≡ Some n → begins_letter text ≡ true
unfolding number_read
type_letter text n is =
    elim (either (number_behind (codes "TYPE") text) (number_named types text) n is) [
      | inl found ↦ letter_taken 4 text (sym (letter_alike (codes "TYPE") (take 4 text) (behind_in (codes "TYPE") text n found).same))
      | inr found ↦ (let named = named_in (λ row. begins_letter row.1) types text n types_letters found in
          sym (letter_alike named.row.1 text named.same) ∙ named.passes)
    ]

-- so it is no digits
pub type_no_digits : (text : List ℕ) (n : ℕ) → type_read text ≡ Some n → list_all is_ascii_digit text ≡ false
type_no_digits text n is = letter_no_digits text (type_letter text n is)

types_small : list_all (λ row. nat_lt row.0 65536) types ≡ true
unfolding types
types_small = refl

more_small : list_all (λ row. nat_lt row.0 65536) more_types ≡ true
unfolding more_types
more_small = refl

named_below : (table : Mnemonics) (text : List ℕ) (n : ℕ) → list_all (λ row. nat_lt row.0 65536) table ≡ true → number_named table text ≡ Some n
    → n < 65536
named_below table text n each is =
    let named = named_in (λ row. nat_lt row.0 65536) table text n each is in
    let passes = named.passes in
    let number = named.number in
    grind (arith, nat_tests)

-- a type has 16 bits
pub type_word_below : (text : List ℕ) (n : ℕ) → type_word_read text ≡ Some n → n < 65536
unfolding number_read type_word_read
type_word_below text n is =
    elim (either (number_read types (codes "TYPE") text) (number_named more_types text) n is) [
      | inl first ↦ (elim (either (number_behind (codes "TYPE") text) (number_named types text) n first) [
        | inl found ↦ (behind_in (codes "TYPE") text n found).below
        | inr found ↦ named_below types text n types_small found
      ])
      | inr found ↦ named_below more_types text n more_small found
    ]

-- the word with the number of a type
none_own : (prefix : List ℕ) → reads_own [] prefix ≡ true
unfolding reads_own
none_own prefix = refl

none_named : (n : ℕ) → None ≡ text_of [] n
unfolding text_of
none_named n = refl

no_name : (word : List ℕ) → number_named [] word ≡ None
unfolding number_named
no_name word = refl

first_is : (found : Option ℕ) (n : ℕ) → option_or found None ≡ Some n → found ≡ Some n
first_is (Some m) n is = is
first_is None n is = is

numbered_behind : (prefix : List ℕ) (n : ℕ) → n < 65536 → number_behind prefix (prefix ++ decimal n) ≡ Some n
unfolding number_read
numbered_behind prefix n small =
    let word = prefix ++ decimal n in
    let read : number_read [] prefix word ≡ Some n =
    ap (number_read [] prefix) (sym (text_written-other [] prefix n (none_named n))) ∙ reads_back [] prefix n small (none_own prefix) in
    first_is (number_behind prefix word) n (ap (λ (o : Option ℕ). option_or (number_behind prefix word) o) (sym (no_name word)) ∙ read)

numbered_reads : (n : ℕ) → n < 65536 → type_read (codes "TYPE" ++ decimal n) ≡ Some n
unfolding number_read
numbered_reads n small =
    ap (λ (o : Option ℕ). option_or o (number_named types (codes "TYPE" ++ decimal n))) (numbered_behind (codes "TYPE") n small)

-- the known word is read as the type
pub known_reads : {rtype : ℕ} {word : Token} → IsTypeWord rtype word → type_read (known_word word rtype) ≡ Some rtype
unfolding type_word_read
known_reads {rtype} {word} is = by (type_read word.text) refl is.reads
  where
    by : (read : Option ℕ) → type_read word.text ≡ read → option_or read (number_named more_types word.text) ≡ Some rtype
        → type_read (if is_some read then word.text else codes "TYPE" ++ decimal rtype) ≡ Some rtype
    by (Some n) own reads = own ∙ reads
    by None own reads = numbered_reads rtype (type_word_below word.text rtype is.reads)
