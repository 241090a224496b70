-- Symbols as characters and as digits.
use Rattle.std.specs.Prelude.{◌≡◌, ◌<◌, ℕ, ⊤}
use Rattle.std.specs.Char.{digit_value}
use Rattle.dns_label.specs.declared.symbol.Symbol.{Symbol}
use Rattle.dns_label.specs.declared.symbol.Symbol.TheVariants.{Char, DecimalEscape}

-- a symbol that is a character, plain or escaped, and no number
abbrev pub IsCharacter : Symbol → Type 0
IsCharacter (DecimalEscape n) = ⊥
IsCharacter _ = ⊤

-- a plain character that is a digit of this base
abbrev pub IsDigitTo : ℕ → Symbol → ℕ → Type 0
IsDigitTo base (Char c) value = (digit_value c ≡ value) × (value < base)
IsDigitTo base _ value = ⊥
