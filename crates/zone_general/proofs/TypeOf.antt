-- Which type a word is for, without a search of the tables.
use Rattle.std.proofs.Common.{◌≡◌, ◌∙◌, ℕ, true, List, ◌∷◌, codes, is_some, Option, Some, None, inl, inr, refl, sym, ap}
use Rattle.std.specs.Char.{is_ascii_digit}
use Rattle.std.specs.List.{list_all}
use Rattle.std.specs.Option.{option_or}
use Rattle.dns_values.specs.Mnemonic.{number_behind, number_named, number_read, number_spelled, type_read, types}
use Rattle.dns_field_texts.specs.TypeWords.{more_types, type_word_read}
use Rattle.zone_general.proofs.KnownWords.{begins_letter, either, letter_alike, named_in, no_digit, type_letter}

-- a word that zonewire knows
pub known_type : (word : List ℕ) (n : ℕ) → type_read word ≡ Some n → (type_word_read word ≡ Some n) × (true ≡ is_some (type_read word))
unfolding type_word_read
known_type word n is =
    (ap (λ (o : Option ℕ). option_or o (number_named more_types word)) is, sym (ap (λ (o : Option ℕ). is_some o) is))

-- a word that begins with a digit
more_letters : list_all (λ row. begins_letter row.1) more_types ≡ true
unfolding more_types
more_letters = refl

type_word_letter : (text : List ℕ) (n : ℕ) → type_word_read text ≡ Some n → begins_letter text ≡ true
unfolding type_word_read
type_word_letter text n is =
    elim (either (type_read text) (number_named more_types text) n is) [
      | inl found ↦ type_letter text n found
      | inr found ↦ (let named = named_in (λ row. begins_letter row.1) more_types text n more_letters found in
          sym (letter_alike named.row.1 text named.same) ∙ named.passes)
    ]

pub digit_first : (word : List ℕ) (first : ℕ) (text : List ℕ) → word ≡ first ∷ text → is_ascii_digit first ≡ true → type_word_read word ≡ None
digit_first word first text same digit = by (type_word_read word) refl
  where
    by : (read : Option ℕ) → type_word_read word ≡ read → read ≡ None
    by None is = refl
    by (Some n) is =
        let letter : begins_letter (first ∷ text) ≡ true = ap begins_letter (sym same) ∙ type_word_letter word n is in
        let bad = sym (no_digit first letter) ∙ digit in absurd cc

-- the class IN
class_none : type_word_read (codes "IN") ≡ None
unfolding type_word_read types more_types number_read number_behind number_named number_spelled
class_none = refl

pub class_first : (word : List ℕ) → word ≡ codes "IN" → type_word_read word ≡ None
class_first word is = ap type_word_read is ∙ class_none
