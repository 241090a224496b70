-- The words before the data of a printed record: owner, TTL, class and type.
use Rattle.std.proofs.Common.{◌≡◌, ◌≢◌, ◌<◌, ◌^◌, ◌==◌, ◌&&◌, ◌||◌, ℕ, Bool, true, false, List, [], ◌∷◌, ◌++◌, length, find, Option, Some, None, option_map, codes, decimal, nat_lt, refl, sym, ◌∙◌, ap, subst, arith, append_assoc, append-nil}
use Rattle.std.specs.Prelude.{if◌then◌else◌, is_none}
use Rattle.std.specs.Char.{is_ascii_digit}
use Rattle.std.specs.List.{AllByRecursion, AllZip, list_all}
use Rattle.std.proofs.lemmas.Bool.Decides.{nat_tests}
use Rattle.std.proofs.lemmas.Fmt.{digits_decimal}
use Rattle.dns_label.specs.declared.symbol.Symbol.TheVariants.{Char, SimpleEscape, DecimalEscape}
use Rattle.dns_label.specs.Name.{IsLabel, IsName, wire}
use Rattle.dns_label.specs.Octets.{AreOctets, IsOctet}
use Rattle.dns_label.specs.Printed.{is_special, printed_symbol, printed_label, printed_labels, printed_name}
use Rattle.dns_label.specs.Symbol.{spelled}
use Rattle.dns_values.specs.Mnemonic.{Mnemonics, types, classes, number_behind, number_named, number_read, number_spelled, text_of, text_written, type_read, type_written, class_written}
use Rattle.dns_values.proofs.Words.{digits_model, text_written-named, text_written-other}
use Rattle.dns_scan.specs.Token.{Token, unquoted}
use Rattle.dns_text.specs.DocumentRows.{WritesToken}
use Rattle.dns_fields.specs.Fields.Field.{compressible}
use Rattle.dns_fields.proofs.PrintedTexts.{IsSafe, bare_token}
use Rattle.dns_fields.proofs.PrintedTokens.{row_has_tokens}
use Rattle.zone_records.proofs.Each.{all_append}

-- a word that begins with no digit, and whose characters stand for themselves
pub record IsHeadText (text : List ℕ) : Type 0 where
  pub safe : AllByRecursion IsSafe text
  pub some : 0 < length text
  pub no_number : list_all is_ascii_digit text ≡ false

-- a capital letter, and one or a digit
abbrev is_capital : ℕ → Bool
is_capital c = nat_lt 64 c && nat_lt c 91

abbrev is_in_word : ℕ → Bool
is_in_word c = is_capital c || is_ascii_digit c

-- the form of each mnemonic and prefix
abbrev is_mnemonic : List ℕ → Bool
is_mnemonic [] = false
is_mnemonic (c ∷ text) = is_capital c && list_all is_in_word text

capital_safe : (c : ℕ) → is_capital c ≡ true → IsSafe c
capital_safe c is = ((grind (arith, nat_tests), grind (arith, nat_tests)), grind (arith, nat_tests), grind (arith, nat_tests))

word_safe : (c : ℕ) → is_in_word c ≡ true → IsSafe c
word_safe c is = ((grind (arith, nat_tests), grind (arith, nat_tests)), grind (arith, nat_tests), grind (arith, nat_tests))

capital_no_digit : (c : ℕ) → is_capital c ≡ true → is_ascii_digit c ≡ false
capital_no_digit c is = grind (arith, nat_tests)

both_hold : (a b : Bool) → (a && b) ≡ true → (a ≡ true) × (b ≡ true)
both_hold true b both = (refl, both)
both_hold false b both = absurd cc

words_safe : (text : List ℕ) → list_all is_in_word text ≡ true → AllByRecursion IsSafe text
words_safe [] each = tt
words_safe (c ∷ text) each =
    let both = both_hold (is_in_word c) (list_all is_in_word text) each in
    (word_safe c both.0, words_safe text both.1)

digit_in_word : (c : ℕ) → is_ascii_digit c ≡ true → is_in_word c ≡ true
digit_in_word c is = grind (arith, nat_tests)

digits_in_word : (text : List ℕ) → list_all is_ascii_digit text ≡ true → list_all is_in_word text ≡ true
digits_in_word [] each = refl
digits_in_word (c ∷ text) each =
    let both = both_hold (is_ascii_digit c) (list_all is_ascii_digit text) each in
    rw (digit_in_word c both.0, digits_in_word text both.1) refl

-- a mnemonic, and a prefix with words after it
word_behind : (front behind : List ℕ) → is_mnemonic front ≡ true → list_all is_in_word behind ≡ true → IsHeadText (front ++ behind)
word_behind [] behind front_is behind_is = absurd cc
word_behind (c ∷ front) behind front_is behind_is =
    let both = both_hold (is_capital c) (list_all is_in_word front) front_is in record {
      safe = (capital_safe c both.0, all_append IsSafe front behind (words_safe front both.1) (words_safe behind behind_is));
      some = omega arith;
      no_number = ap (λ (b : Bool). b && list_all is_ascii_digit (front ++ behind)) (capital_no_digit c both.0);
    }

-- what holds of each text of a table holds of the text of a number
at_row : (test : List ℕ → Bool) (here : Bool) (row : ℕ × List ℕ) (others : Option (ℕ × List ℕ)) (text : List ℕ) → test row.1 ≡ true
    → (option_map {T = ℕ × List ℕ} (λ row. row.1) others ≡ Some text → test text ≡ true)
    → option_map {T = ℕ × List ℕ} (λ row. row.1) (if here then Some row else others) ≡ Some text → test text ≡ true
at_row test true row others text first rest is =
    let same : row.1 ≡ text = cc in subst (λ (l : List ℕ). test l ≡ true) same first
at_row test false row others text first rest is = rest is

in_table : (test : List ℕ → Bool) (table : Mnemonics) (number : ℕ) (text : List ℕ) → list_all (λ row. test row.1) table ≡ true
    → text_of table number ≡ Some text → test text ≡ true
unfolding text_of
in_table test [] number text each is = absurd cc
in_table test (row ∷ rows) number text each is =
    let both = both_hold (test row.1) (list_all (λ row. test row.1) rows) each in
    at_row test (row.0 == number) row (find (λ row. row.0 == number) rows) text both.0 (in_table test rows number text both.1) is

-- what a number is written as
written_as : (P : List ℕ → Type 0) (table : Mnemonics) (prefix : List ℕ) (number : ℕ)
    → ((text : List ℕ) → text_of table number ≡ Some text → P text) → P (prefix ++ decimal number) → P (text_written table prefix number)
written_as P table prefix number named other = by (text_of table number) refl
  where
    by : (text : Option (List ℕ)) → text_of table number ≡ text → P (text_written table prefix number)
    by (Some text) is = subst P (sym (text_written-named table prefix text number (sym is))) (named text is)
    by None is = subst P (sym (text_written-other table prefix number (sym is))) other

word_written : (table : Mnemonics) (prefix : List ℕ) (number : ℕ) → number < 2 ^ 64 → list_all (λ row. is_mnemonic row.1) table ≡ true
    → is_mnemonic prefix ≡ true → IsHeadText (text_written table prefix number)
word_written table prefix number small each prefix_is =
    written_as IsHeadText table prefix number
    (λ text is. subst IsHeadText (append-nil text) (word_behind text [] (in_table is_mnemonic table number text each is) refl))
    (word_behind prefix (decimal number) prefix_is (digits_in_word (decimal number) (digits_decimal digits_model number small)))

types_are_words : list_all (λ row. is_mnemonic row.1) types ≡ true
unfolding types
types_are_words = refl

classes_are_words : list_all (λ row. is_mnemonic row.1) classes ≡ true
unfolding classes
classes_are_words = refl

pub type_word : (rtype : ℕ) → rtype < 2 ^ 16 → IsHeadText (type_written rtype)
type_word rtype small = word_written types (codes "TYPE") rtype (omega arith) types_are_words refl

pub class_word : (class : ℕ) → class < 2 ^ 16 → IsHeadText (class_written class)
class_word class small = word_written classes (codes "CLASS") class (omega arith) classes_are_words refl

-- no class is written as a type is
no_type_named : list_all (λ row. is_none (type_read row.1)) classes ≡ true
unfolding classes types number_read number_behind number_named number_spelled
no_type_named = refl

no_type_behind : (number : ℕ) → type_read (codes "CLASS" ++ decimal number) ≡ None
unfolding types number_read number_behind number_named
no_type_behind number = refl

none_of : (found : Option ℕ) → is_none found ≡ true → found ≡ None
none_of None is = refl
none_of (Some n) is = absurd cc

pub class_is_no_type : (class : ℕ) → type_read (class_written class) ≡ None
class_is_no_type class =
    written_as (λ text. type_read text ≡ None) classes (codes "CLASS") class
    (λ text is. none_of (type_read text) (in_table (λ text. is_none (type_read text)) classes class text no_type_named is))
    (no_type_behind class)

-- The first octet of a printed name is no octet that it escapes with a backslash, other than the dot and the backslash.
label_first : (special visible : Bool) (c first : ℕ) (rest behind : List ℕ) → first ≢ 92 → (special ≡ false → c ≢ first)
    → spelled (if special then SimpleEscape c else (if visible then Char c else DecimalEscape c)) ++ rest ≡ first ∷ behind → ⊥
label_first true visible c first rest behind backslash other is = let e : 92 ≡ first = cc in backslash (sym e)
label_first false true c first rest behind backslash other is = let e : c ≡ first = cc in other refl e
label_first false false c first rest behind backslash other is = let e : 92 ≡ first = cc in backslash (sym e)

labels_first : (first : ℕ) (label rest behind : List ℕ) → first ≢ 92 → first ≢ 46 → is_special first ≡ true
    → printed_label label ++ 46 ∷ rest ≡ first ∷ behind → ⊥
labels_first first [] rest behind backslash dot special is = let e : 46 ≡ first = cc in dot (sym e)
labels_first first (c ∷ label) rest behind backslash dot special is =
    label_first (is_special c) _ c first (printed_label label ++ 46 ∷ rest) behind backslash
    (λ plain same. let bad : true ≡ false = sym special ∙ ap is_special (sym same) ∙ plain in cc)
    (sym (append_assoc (spelled (printed_symbol c)) (printed_label label) (46 ∷ rest)) ∙ is)

name_first : (first : ℕ) (name : List (List ℕ)) (behind : List ℕ) → first ≢ 92 → first ≢ 46 → is_special first ≡ true
    → printed_name name ≡ first ∷ behind → ⊥
name_first first [] behind backslash dot special is = let e : 46 ≡ first = cc in dot (sym e)
name_first first (label ∷ parent) behind backslash dot special is =
    labels_first first label (printed_labels parent) behind backslash dot special is

-- no dollar sign
pub name_no_dollar : (name : List (List ℕ)) (behind : List ℕ) → printed_name name ≡ 36 ∷ behind → ⊥
name_no_dollar name behind = name_first 36 name behind (λ e. omega (arith, e)) (λ e. omega (arith, e)) refl

-- the octets of a name on the wire
wire_octets : (name : List (List ℕ)) → AllByRecursion IsLabel name → AllByRecursion AreOctets name → AreOctets (wire name)
wire_octets [] each are = (omega arith, tt)
wire_octets (label ∷ name) each are =
    (omega (arith, each.0.short), all_append IsOctet label (wire name) are.0 (wire_octets name each.1 are.1))

-- a name is printed as an unquoted token, as the field of data that is a name
pub name_written : (name : List (List ℕ)) → IsName name → AllByRecursion AreOctets name → WritesToken (unquoted (printed_name name)) (printed_name name)
name_written name is are =
    let octets_are : AreOctets (wire name ++ []) = all_append IsOctet (wire name) [] (wire_octets name is.labels are) tt in
    let found = row_has_tokens (compressible name ∷ []) (is, tt) ((λ e. cc), tt) octets_are in
    by found.0 found.1
  where
    by : (tokens : List Token) → AllZip WritesToken tokens (printed_name name ∷ []) → WritesToken (unquoted (printed_name name)) (printed_name name)
    by [] writes = absurd writes
    by (token ∷ others) writes =
        subst (λ (t : Token). WritesToken t (printed_name name))
        (bare_token writes.0 (λ rest quote. name_first 34 name rest (λ e. omega (arith, e)) (λ e. omega (arith, e)) refl quote)) writes.0
