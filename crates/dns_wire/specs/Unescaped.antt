-- A name's text without escapes: each character of a label stands for itself, and a dot follows each label.
use Rattle.std.specs.Prelude.{◌≡◌, ◌≢◌, ◌==◌, ◌&&◌, ℕ, Bool, List, ◌∷◌, ◌++◌, not}
use Rattle.std.specs.List.{AllByRecursion}
use Rattle.dns_label.specs.declared.symbol.Symbol.TheVariants.{Char}
use Rattle.dns_label.specs.Name.{IsLabel}
use Rattle.dns_label.specs.Symbol.{IsSymbol, is_plain}

-- an octet that as a character is a symbol other than a dot
abbrev pub IsUnescaped : ℕ → Type 0
IsUnescaped octet = IsSymbol (Char octet) × (octet ≢ 46)

-- the same as a test
abbrev pub is_unescaped : ℕ → Bool
is_unescaped octet = is_plain octet && not (octet == 46)

-- a label of such octets, and the text after its dot
pub record StartsWithUnescapedLabel (text label rest : List ℕ) : Type 0 where
  pub is_label : IsLabel label
  pub each : AllByRecursion IsUnescaped label
  pub whole : text ≡ label ++ 46 ∷ rest
