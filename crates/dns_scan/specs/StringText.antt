-- The texts of character strings (RFC 1035 5.1).
use Rattle.std.specs.Prelude.{◌≡◌, ◌≤◌, ◌==◌, ◌&&◌, ◌||◌, ◌++◌, ◌∷◌, [], ℕ, Bool, List, length, map, not, if◌then◌else◌}
use Rattle.std.specs.List.{AllByRecursion, flat_map}
use Rattle.dns_label.specs.declared.symbol.Symbol.{Symbol}
use Rattle.dns_label.specs.declared.symbol.Symbol.TheVariants.{Char, SimpleEscape, DecimalEscape}
use Rattle.dns_label.specs.Symbol.{IsSymbol, is_printable, octet, spelled}
use Rattle.dns_scan.specs.declared.char_str.text.Style.{Style}
use Rattle.dns_scan.specs.declared.char_str.text.Style.TheVariants.{Plain, Quoted, Unquoted}

-- the text is of symbols, which stand for the octets
pub record Spells (text octets : List ℕ) : Type 0 where
  pub symbols : List Symbol
  pub each : AllByRecursion IsSymbol symbols
  pub written : text ≡ flat_map spelled symbols
  pub stand : map octet symbols ≡ octets

-- the text spells octets that are a character string
pub record IsStringText (text string : List ℕ) : Type 0 where
  pub spells : Spells text string
  pub short : length string ≤ 255

-- Which printable characters are written after a backslash: in plain text the backslash; between quotes the quote too;
-- in a word the space, the quote, the parentheses, the semicolon and the backslash.
abbrev pub is_escaped : Style → ℕ → Bool
is_escaped Plain octet = octet == 92
is_escaped Quoted octet = (octet == 34) || (octet == 92)
is_escaped Unquoted octet =
    (octet == 32) || ((octet == 34) || ((octet == 40) || ((octet == 41) || ((octet == 59) || (octet == 92)))))

-- what is written as itself
abbrev pub is_bare : Style → ℕ → Bool
is_bare style octet = is_printable octet && not (is_escaped style octet)

-- what is not printable is written as three digits
abbrev pub symbol_of : Style → ℕ → Symbol
symbol_of style octet =
    if is_printable octet then (if is_escaped style octet then SimpleEscape octet else Char octet) else DecimalEscape octet

-- the text of a string; that of a quoted one is between its quotes
abbrev pub text_of : Style → List ℕ → List ℕ
text_of style string = flat_map (λ octet. spelled (symbol_of style octet)) string

abbrev pub plain_text : List ℕ → List ℕ
plain_text string = text_of Plain string

abbrev pub between_quotes : List ℕ → List ℕ
between_quotes string = text_of Quoted string

abbrev pub quoted_text : List ℕ → List ℕ
quoted_text string = 34 ∷ between_quotes string ++ 34 ∷ []

abbrev pub unquoted_text : List ℕ → List ℕ
unquoted_text string = text_of Unquoted string

-- the text spells these octets and no others
pub record SpellsOnly (text octets : List ℕ) : Type 0 where
  pub spells : Spells text octets
  pub only : (others : List ℕ) → Spells text others → others ≡ octets
