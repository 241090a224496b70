-- TTLs and classes are words for no type, by the longer table too.
use Rattle.std.proofs.Common.{◌≡◌, ◌∙◌, ℕ, Bool, true, false, not, List, take, map, codes, find, is_none, Option, option_map, Some, inl, inr, refl, sym, ap}
use Rattle.std.specs.Char.{is_ascii_digit, to_ascii_lowercase}
use Rattle.std.specs.List.{AllByRecursion, list_all}
use Rattle.std.specs.Option.{option_or}
use Rattle.std.specs.Str.{bytes_eq, str_eq_ignore_ascii_case}
use Rattle.std.proofs.lemmas.List.{take-map}
use Rattle.std.proofs.lemmas.Slice.Eq.{bytes_eq-Decides}
use Rattle.dns_values.specs.Mnemonic.{Mnemonics, classes, class_read, number_behind, number_named, number_read, type_read}
use Rattle.dns_scan.specs.Token.{Token}
use Rattle.dns_field_texts.specs.TypeWords.{more_types, type_word_read}
use Rattle.dns_entry_scanner.specs.RecordHead.{IsClass, IsTtl, States}
use Rattle.dns_entry_scanner.specs.RecordHead.States.{nothing, ttl_class, class_ttl}
use Rattle.dns_entry_scanner.specs.RecordHead.States.{ttl as ttl_alone, class as class_alone}
use Rattle.zone_general.specs.LongerRow.{IsNoTypeWord}
use Rattle.zone_general.proofs.KnownWords.{begins_letter, behind_in, either, letter_alike, letter_no_digits, named_in, type_no_digits}

more_letters : list_all (λ row. begins_letter row.1) more_types ≡ true
unfolding more_types
more_letters = refl

-- a word for a type is not of digits
word_no_digits : (text : List ℕ) (n : ℕ) → type_word_read text ≡ Some n → list_all is_ascii_digit text ≡ false
unfolding type_word_read
word_no_digits text n is =
    elim (either (type_read text) (number_named more_types text) n is) [
      | inl first ↦ type_no_digits text n first
      | inr found ↦ (let named = named_in (λ row. begins_letter row.1) more_types text n more_letters found in
          letter_no_digits text (sym (letter_alike named.row.1 text named.same) ∙ named.passes))
    ]

-- mnemonics are read in either case
named_alike : (table : Mnemonics) (a b : List ℕ) → map to_ascii_lowercase a ≡ map to_ascii_lowercase b
    → number_named table a ≡ number_named table b
unfolding number_named
named_alike table a b same =
    ap (λ (l : List ℕ). option_map (λ (row : ℕ × List ℕ). row.0) (find (λ (row : ℕ × List ℕ). bytes_eq (map to_ascii_lowercase row.1) l) table)) same

-- no mnemonic of a further type is a class's, or begins as a class with a number does
class_is_none : list_all (λ row. is_none (number_named more_types row.1)) classes ≡ true
unfolding classes more_types number_named
class_is_none = refl

abbrev begins_class : List ℕ → Bool
begins_class word = str_eq_ignore_ascii_case (codes "CLASS") (take 5 word)

none_begins_class : list_all (λ row. not (begins_class row.1)) more_types ≡ true
unfolding more_types
none_begins_class = refl

class_alike : (a b : List ℕ) → map to_ascii_lowercase a ≡ map to_ascii_lowercase b → begins_class a ≡ begins_class b
class_alike a b same =
    ap (bytes_eq (map to_ascii_lowercase (codes "CLASS")))
    (sym (take-map to_ascii_lowercase 5 a) ∙ ap (take 5) same ∙ take-map to_ascii_lowercase 5 b)

-- a word for a class is none for a further type
class_no_more : (text : List ℕ) (class n : ℕ) → class_read text ≡ Some class → number_named more_types text ≡ Some n → ⊥
unfolding number_read
class_no_more text class n is more =
    elim (either (number_behind (codes "CLASS") text) (number_named classes text) class is) [
      | inl found ↦ (let named = named_in (λ row. not (begins_class row.1)) more_types text n none_begins_class more in
          let begins : begins_class text ≡ true = (bytes_eq-Decides _ _).1 (behind_in (codes "CLASS") text class found).same in
          let bad : false ≡ true = ap not (sym begins) ∙ ap not (sym (class_alike named.row.1 text named.same)) ∙ named.passes in cc)
      | inr found ↦ (let named = named_in (λ row. is_none (number_named more_types row.1)) classes text class class_is_none found in
          let some : is_none (number_named more_types text) ≡ true =
          ap (λ (o : Option ℕ). is_none o) (sym (named_alike more_types named.row.1 text named.same)) ∙ named.passes in
          let bad : false ≡ true = ap (λ (o : Option ℕ). is_none o) (sym more) ∙ some in cc)
    ]

-- so neither is a word for a type
ttl_no_type : {token : Token} {seconds : ℕ} → IsTtl seconds token → IsNoTypeWord token
ttl_no_type {token} is rtype also =
    let text : token.text ≡ is.0 = ap (λ (t : Token). t.text) is.1.0 in
    let bad : true ≡ false = sym is.2 ∙ word_no_digits is.0 rtype (ap type_word_read (sym text) ∙ also.reads) in cc

class_no_type : {token : Token} {class : ℕ} → IsClass class token → IsNoTypeWord token
unfolding type_word_read
class_no_type {token} {class} is rtype also =
    let text : token.text ≡ is.0 = ap (λ (t : Token). t.text) is.1.0 in
    class_no_more is.0 class rtype is.4
    (ap (λ (o : Option ℕ). option_or o (number_named more_types is.0)) (sym is.3) ∙ ap type_word_read (sym text) ∙ also.reads)

-- what is stated before a type is no word for one
pub stated_no_types : {stated : List Token} {seconds class : Option ℕ} → States stated seconds class → AllByRecursion IsNoTypeWord stated
stated_no_types nothing = tt
stated_no_types (ttl_alone is) = (ttl_no_type is, tt)
stated_no_types (class_alone is) = (class_no_type is, tt)
stated_no_types (ttl_class is also) = (ttl_no_type is, (class_no_type also, tt))
stated_no_types (class_ttl is also) = (class_no_type is, (ttl_no_type also, tt))
