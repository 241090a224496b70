-- Why a text was not taken for a character string.
use Rattle.std.specs.Prelude.{◌≡◌, ◌≢◌, ◌≤◌, ◌++◌, [], ℕ, List, length, map}
use Rattle.std.specs.List.{AllByRecursion, flat_map}
use Rattle.dns_label.specs.declared.symbol.Symbol.{Symbol}
use Rattle.dns_label.specs.Symbol.{IsSymbol, octet, spelled}
use Rattle.dns_scan.specs.StringText.{IsStringText}
use Rattle.dns_scan.specs.declared.char_str.text.FromStrError.{FromStrError}
use Rattle.dns_scan.specs.declared.char_str.text.FromStrError.TheVariants.{Presentation, ShortBuf}
use Rattle.dns_scan.specs.declared.char_str.text.PresentationError.{PresentationError}
use Rattle.dns_scan.specs.declared.char_str.text.PresentationError.TheVariants.{BadSymbol, LongString}

-- the text is symbols that stand for these octets, and then the rest
pub record BeginsWith (text octets rest : List ℕ) : Type 0 where
  pub symbols : List Symbol
  pub each : AllByRecursion IsSymbol symbols
  pub written : text ≡ flat_map spelled symbols ++ rest
  pub stand : map octet symbols ≡ octets

-- there is a rest, and it begins with no symbol
pub record HasNoSymbol (rest : List ℕ) : Type 0 where
  pub some : rest ≢ []
  pub none : (symbol : Symbol) (behind : List ℕ) → IsSymbol symbol → rest ≡ spelled symbol ++ behind → ⊥

-- Which fault comes first: something other than a symbol after at most 255 of them, or a 256th.
abbrev pub HasFault : List ℕ → PresentationError → Type 0
HasFault text BadSymbol =
    (octets : List ℕ) × (rest : List ℕ) × BeginsWith text octets rest × (length octets ≤ 255) × HasNoSymbol rest
HasFault text LongString = (octets : List ℕ) × (rest : List ℕ) × BeginsWith text octets rest × (length octets ≡ 256)

-- The text is no string's, by its first fault; or it is one's, and there was no room or no memory for it.
abbrev pub IsRefused : List ℕ → FromStrError → Type 0
IsRefused text (Presentation error) = HasFault text error × ((string : List ℕ) → IsStringText text string → ⊥)
IsRefused text ShortBuf = (string : List ℕ) × IsStringText text string
