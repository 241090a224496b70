-- The texts of a string spell it.
use Rattle.std.proofs.Common.{◌≡◌, ◌≢◌, ℕ, ◌<◌, Bool, true, false, List, [], ◌∷◌, map, refl, sym, ◌∙◌, ap, subst, arith}
use Rattle.std.proofs.lemmas.Bool.Decides.{nat_tests}
use Rattle.std.specs.List.{AllByRecursion, flat_map}
use Rattle.dns_label.specs.declared.symbol.Symbol.{Symbol}
use Rattle.dns_label.specs.Symbol.{IsSymbol, IsPrintable, IsNoDigit, octet, spelled, is_printable}
use Rattle.dns_name.proofs.Parts.{spelled_some}
use Rattle.dns_label.specs.Octets.{IsOctet}
use Rattle.dns_scan.specs.StringText.{Spells, SpellsOnly, is_escaped, symbol_of, text_of}
use Rattle.dns_scan.specs.declared.char_str.text.Style.{Style}
use Rattle.dns_scan.specs.declared.char_str.text.Style.TheVariants.{Plain, Quoted, Unquoted}
use Rattle.dns_scan.proofs.Texts.{spells_more, spells_less, spells_none}

-- what the tests say
printable : (o : ℕ) → is_printable o ≡ true → IsPrintable o
printable o passes = grind (arith, nat_tests)

no_digit_plain : (o : ℕ) → is_escaped Plain o ≡ true → IsNoDigit o
no_digit_plain o passes = grind (arith, nat_tests)

no_digit_quoted : (o : ℕ) → is_escaped Quoted o ≡ true → IsNoDigit o
no_digit_quoted o passes = grind (arith, nat_tests)

no_digit_unquoted : (o : ℕ) → is_escaped Unquoted o ≡ true → IsNoDigit o
no_digit_unquoted o passes = grind (arith, nat_tests)

plain_plain : (o : ℕ) → is_escaped Plain o ≡ false → o ≢ 92
plain_plain o fails = grind (arith, nat_tests)

plain_quoted : (o : ℕ) → is_escaped Quoted o ≡ false → o ≢ 92
plain_quoted o fails = grind (arith, nat_tests)

plain_unquoted : (o : ℕ) → is_escaped Unquoted o ≡ false → o ≢ 92
plain_unquoted o fails = grind (arith, nat_tests)

no_digit : (style : Style) (o : ℕ) → is_escaped style o ≡ true → IsNoDigit o
no_digit Plain o passes = no_digit_plain o passes
no_digit Quoted o passes = no_digit_quoted o passes
no_digit Unquoted o passes = no_digit_unquoted o passes

no_backslash : (style : Style) (o : ℕ) → is_escaped style o ≡ false → o ≢ 92
no_backslash Plain o fails = plain_plain o fails
no_backslash Quoted o fails = plain_quoted o fails
no_backslash Unquoted o fails = plain_unquoted o fails

-- the symbol of an octet is one, and stands for it
is_symbol_by : (print escaped : Bool) (style : Style) (o : ℕ) → is_printable o ≡ print → is_escaped style o ≡ escaped → o < 256
    → IsSymbol (symbol_of style o) × (octet (symbol_of style o) ≡ o)
is_symbol_by true true style o print escaped small = rw (print, escaped) ((printable o print, no_digit style o escaped), refl)
is_symbol_by true false style o print escaped small = rw (print, escaped) ((printable o print, no_backslash style o escaped), refl)
is_symbol_by false escaped style o print is small = rw print (small, refl)

text_spells : (style : Style) (string : List ℕ) → AllByRecursion IsOctet string → Spells (text_of style string) string
text_spells style [] small = spells_none
text_spells style (o ∷ string) small =
    let is = is_symbol_by (is_printable o) (is_escaped style o) style o refl refl small.0 in
    let P : ℕ → Type 0 = λ n. Spells (text_of style (o ∷ string)) (n ∷ string) in
    subst P is.1 (spells_more (text_of style (o ∷ string)) (text_of style string) string (symbol_of style o) is.0 refl (text_spells style string small.1))

-- a text spells one list of octets
spelled_one : (text others : List ℕ) (symbols : List Symbol) → AllByRecursion IsSymbol symbols → text ≡ flat_map spelled symbols
    → Spells text others → others ≡ map octet symbols
spelled_one text others [] each written spells = none spells.symbols (sym written ∙ spells.written) spells.stand
  where
    none : (symbols : List Symbol) → [] ≡ flat_map spelled symbols → map octet symbols ≡ others → others ≡ []
    none [] is stand = sym stand
    none (symbol ∷ symbols) is stand = absurd (spelled_some symbol (flat_map spelled symbols) (sym is))
spelled_one text others (symbol ∷ symbols) each written spells =
    let less = spells_less text (flat_map spelled symbols) others symbol each.0 written spells in
    less.2 ∙ ap (λ l. octet symbol ∷ l) (spelled_one (flat_map spelled symbols) less.0 symbols each.1 refl less.1)

pub spells_one : (text octets others : List ℕ) → Spells text octets → Spells text others → others ≡ octets
spells_one text octets others spells also = spelled_one text others spells.symbols spells.each spells.written also ∙ spells.stand

pub text_spells_only : (style : Style) (string : List ℕ) → AllByRecursion IsOctet string → SpellsOnly (text_of style string) string
text_spells_only style string small =
    record { spells = text_spells style string small; only = λ others also. spells_one _ string others (text_spells style string small) also }
