-- The tokens that parameters are printed as scan as the parameters.
use Rattle.std.proofs.Common.{◌≡◌, ◌≢◌, ◌<◌, ℕ, Bool, true, false, List, [], ◌∷◌, ◌++◌, length, map, refl, ◌∙◌, ap, arith, append-nil, inl, inr}
use Rattle.std.proofs.lemmas.Bool.Decides.{nat_tests}
use Rattle.std.proofs.lemmas.List.Sorted.{IsPermutation-refl}
use Rattle.std.specs.Prelude.{if◌then◌else◌}
use Rattle.std.specs.Int.{to_be_bytes, w16}
use Rattle.std.specs.List.{AllByRecursion, AllZip}
use Rattle.dns_label.specs.declared.symbol.Symbol.{Symbol}
use Rattle.dns_label.specs.declared.symbol.Symbol.TheVariants.{Char, SimpleEscape, DecimalEscape}
use Rattle.dns_label.specs.Octets.{AreOctets, IsOctet}
use Rattle.dns_label.specs.Symbol.{IsNoDigit, IsPrintable, is_printable, spelled}
use Rattle.dns_scan.specs.StringText.{SpellsOnly, unquoted_text}
use Rattle.dns_scan.specs.Token.{Token, unquoted}
use Rattle.dns_text.specs.DocumentRows.{AreSymbols, WritesToken, unquoted as bare}
use Rattle.dns_text.specs.Tokens.{IsIn, stands_plain}
use Rattle.dns_fields.proofs.PrintedRows.{each_split, escaped_in_words}
use Rattle.dns_fields.proofs.PrintedTexts.{NoQuote, bare_token}
use Rattle.dns_fields.proofs.PrintedTokens.{no_symbols, one_more}
use Rattle.dns_service_parameters.specs.Service.{AreParameters, IsParameter, Parameter, octets_of, parameter_octets, value_octets}
use Rattle.dns_service_parameters.specs.ServiceText.{ScanInOrder, ScansParameter, ScansParameters, TakesWord, assigned, key_text, parameter_text, value_text}
use Rattle.dns_service_parameters.proofs.ServiceShown.{IsBare, key_bare}
use Rattle.dns_service_parameters.proofs.ServiceTexts.{key_some, parameter_spelled, text_none, text_some}

-- the symbol of an octet may be in an unquoted token
printable : (octet : ℕ) → is_printable octet ≡ true → IsPrintable octet
printable octet is = (grind (arith, nat_tests), grind (arith, nat_tests))

no_digit : (octet : ℕ) → escaped_in_words octet ≡ true → IsNoDigit octet
no_digit octet is = grind (arith, nat_tests)

no_backslash : (octet : ℕ) → escaped_in_words octet ≡ false → octet ≢ 92
no_backslash octet is = grind (arith, nat_tests)

stands : (octet : ℕ) → escaped_in_words octet ≡ false → stands_plain false octet ≡ true
stands octet is = grind (arith, nat_tests)

abbrev word_symbol : ℕ → Symbol
word_symbol octet = if is_printable octet then (if escaped_in_words octet then SimpleEscape octet else Char octet) else DecimalEscape octet

in_word : (octet : ℕ) → octet < 256 → IsIn false (word_symbol octet)
in_word octet small = by (is_printable octet) (escaped_in_words octet) refl refl
  where
    by : (print escaped : Bool) → is_printable octet ≡ print → escaped_in_words octet ≡ escaped
        → IsIn false (if print then (if escaped then SimpleEscape octet else Char octet) else DecimalEscape octet)
    by true true print escaped = ((printable octet print, no_digit octet escaped), tt)
    by true false print plain = ((printable octet print, no_backslash octet plain), stands octet plain)
    by false escaped print is = (small, tt)

word_symbols : (text : List ℕ) → AreOctets text → AreSymbols false (unquoted_text text)
word_symbols [] small = no_symbols
word_symbols (octet ∷ text) small = one_more (word_symbol octet) (in_word octet small.0) (word_symbols text small.1)

bare_in : (c : ℕ) → IsBare c → IsIn false (Char c)
bare_in c is =
    let low = is.0 in
    let high = is.1 in
    let other = is.3 in
    (((omega (arith, low), omega (arith, high)), is.4), grind (arith, nat_tests))

bare_before : (front rest : List ℕ) → AllByRecursion IsBare front → AreSymbols false rest → AreSymbols false (front ++ rest)
bare_before [] rest each are = are
bare_before (c ∷ front) rest each are = one_more (Char c) (bare_in c each.0) (bare_before front rest each.1 are)

symbol_some : (symbol : Symbol) (rest : List ℕ) → 0 < length (spelled symbol ++ rest)
symbol_some (Char c) rest = omega arith
symbol_some (SimpleEscape c) rest = omega arith
symbol_some (DecimalEscape n) rest = omega arith

word_some : (text : List ℕ) → 0 < length text → 0 < length (unquoted_text text)
word_some [] none = absurd (omega arith)
word_some (octet ∷ text) some = symbol_some (word_symbol octet) (unquoted_text text)

-- the first character is no quote
no_quote : (front rest : List ℕ) → AllByRecursion IsBare front → 0 < length front → NoQuote (front ++ rest)
no_quote [] rest each some behind is = absurd (omega arith)
no_quote (c ∷ front) rest each some behind is = let same : c ≡ 34 = cc in let low = each.0.0 in omega (arith, same, low)

some_front : (front rest : List ℕ) → 0 < length front → 0 < length (front ++ rest)
some_front [] rest some = absurd (omega arith)
some_front (c ∷ front) rest some = omega arith

-- a parameter
module _ (parameter : Parameter) (is : IsParameter parameter) (small : AreOctets (value_octets parameter.value)) where
  key_each : AllByRecursion IsBare (key_text parameter.key)
  key_each = let few = is.small in key_bare parameter.key (omega (arith, few))

  assigned_symbols : (octets : List ℕ) → value_octets parameter.value ≡ octets → AreSymbols false (assigned octets (value_text parameter.value))
  assigned_symbols [] none = no_symbols
  assigned_symbols (octet ∷ octets) some =
      one_more (Char 61) (((omega arith, omega arith), λ same. omega (arith, same)), refl)
      (word_symbols (value_text parameter.value) (text_some parameter.value is.fits small (λ none. cc)).small)

  pub token_written : WritesToken (unquoted (parameter_text parameter)) (parameter_text parameter)
  token_written =
      let value = assigned (value_octets parameter.value) (value_text parameter.value) in
      bare
      (bare_before (key_text parameter.key) value key_each (assigned_symbols (value_octets parameter.value) refl))
      (some_front (key_text parameter.key) value (key_some parameter.key))

  word_taken : ((text : List ℕ) → AreOctets text → SpellsOnly (unquoted_text text) text) → (token : Token) (left : List Token) (octets : List ℕ) → value_octets parameter.value ≡ octets
      → token ≡ unquoted (key_text parameter.key ++ assigned octets (value_text parameter.value))
      → TakesWord (key_text parameter.key) (value_text parameter.value) (token ∷ left) left
  word_taken in_words token left [] none text =
      inl (record { token = token; is = refl; fits = text ∙ ap unquoted (append-nil (key_text parameter.key)) }, text_none parameter.value is.fits none)
  word_taken in_words token left (octet ∷ octets) some text =
      let written = text_some parameter.value is.fits small (λ none. cc) in
      inr (inl (
        unquoted_text (value_text parameter.value),
        word_some (value_text parameter.value) written.some,
        record { token = token; is = refl; fits = text },
        (in_words (value_text parameter.value) written.small).spells,
      ))

  pub token_scans : ((text : List ℕ) → AreOctets text → SpellsOnly (unquoted_text text) text) → (token : Token) (left : List Token) → WritesToken token (parameter_text parameter) → ScansParameter parameter (token ∷ left) left
  token_scans in_words token left writes =
      let value = assigned (value_octets parameter.value) (value_text parameter.value) in
      let bare_is = bare_token writes (no_quote (key_text parameter.key) value key_each (key_some parameter.key)) in
      record {
        word = key_text parameter.key;
        text = value_text parameter.value;
        takes = word_taken in_words token left (value_octets parameter.value) refl bare_is;
        spells = parameter_spelled parameter is small;
      }

-- parameters, one after another
value_small : (parameter : Parameter) (parameters : List Parameter) → AreOctets (octets_of (parameter ∷ parameters))
    → AreOctets (value_octets parameter.value) × AreOctets (octets_of parameters)
value_small parameter parameters small =
    let octets = value_octets parameter.value in
    let both = each_split IsOctet (parameter_octets parameter) (octets_of parameters) small in
    let behind = (each_split IsOctet (to_be_bytes w16 parameter.key) (to_be_bytes w16 (length octets) ++ octets) both.0).1 in
    ((each_split IsOctet (to_be_bytes w16 (length octets)) octets behind).1, both.1)

all_written : (parameters : List Parameter) → AllByRecursion IsParameter parameters → AreOctets (octets_of parameters)
    → AllZip WritesToken (map unquoted (map parameter_text parameters)) (map parameter_text parameters)
all_written [] each small = tt
all_written (parameter ∷ parameters) each small =
    let both = value_small parameter parameters small in
    (token_written parameter each.0 both.0, all_written parameters each.1 both.1)

all_scanned : ((text : List ℕ) → AreOctets text → SpellsOnly (unquoted_text text) text) → (parameters : List Parameter) (tokens : List Token) → AllByRecursion IsParameter parameters → AreOctets (octets_of parameters)
    → AllZip WritesToken tokens (map parameter_text parameters) → ScanInOrder parameters tokens
all_scanned in_words [] [] each small writes = refl
all_scanned in_words [] (token ∷ tokens) each small writes = absurd writes
all_scanned in_words (parameter ∷ parameters) [] each small writes = absurd writes
all_scanned in_words (parameter ∷ parameters) (token ∷ tokens) each small writes =
    let both = value_small parameter parameters small in (
      tokens,
      token_scans parameter each.0 both.0 in_words token tokens writes.0,
      all_scanned in_words parameters tokens each.1 both.1 writes.1,
    )

pub parameters_written : (parameters : List Parameter) → AreParameters parameters → AreOctets (octets_of parameters)
    → AllZip WritesToken (map unquoted (map parameter_text parameters)) (map parameter_text parameters)
parameters_written parameters are small = all_written parameters are.each small

pub parameters_back : ((text : List ℕ) → AreOctets text → SpellsOnly (unquoted_text text) text) → (parameters : List Parameter) (tokens : List Token) → AreParameters parameters → AreOctets (octets_of parameters)
    → AllZip WritesToken tokens (map parameter_text parameters) → ScansParameters parameters tokens
parameters_back in_words parameters tokens are small writes = record {
  are = are;
  listed = parameters;
  scanned = all_scanned in_words parameters tokens are.each small writes;
  ordered = IsPermutation-refl parameters;
}
