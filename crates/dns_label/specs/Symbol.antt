-- The symbols of text, each for one octet (RFC 1035, section 5.1).
use Rattle.std.specs.Prelude.{◌+◌, ◌<◌, ◌≤◌, ◌≢◌, ◌/◌, ◌%◌, ◌⊎◌, ◌==◌, ◌&&◌, ℕ, Bool, List, [], ◌∷◌, nat_lt, not}
use Rattle.dns_label.specs.declared.symbol.Symbol.{Symbol}
use Rattle.dns_label.specs.declared.symbol.Symbol.TheVariants.{Char, SimpleEscape, DecimalEscape}

-- from the space to the tilde
abbrev pub IsPrintable : ℕ → Type 0
IsPrintable octet = (32 ≤ octet) × (octet ≤ 126)

-- the same as a test
abbrev pub is_printable : ℕ → Bool
is_printable octet = nat_lt 31 octet && nat_lt octet 127

-- a printable character other than the backslash (92), which stands for itself
abbrev pub is_plain : ℕ → Bool
is_plain octet = is_printable octet && not (octet == 92)

abbrev pub IsNoDigit : ℕ → Type 0
IsNoDigit octet = (octet < 48) ⊎ (57 < octet)

-- A symbol is a printable character other than the backslash (92), a backslash before one that is no digit, or a
-- backslash before three digits that give at most 255.
abbrev pub IsSymbol : Symbol → Type 0
IsSymbol (Char c) = IsPrintable c × (c ≢ 92)
IsSymbol (SimpleEscape c) = IsPrintable c × IsNoDigit c
IsSymbol (DecimalEscape n) = n < 256

-- a number below 1000 as three digits
abbrev pub three_digits : ℕ → List ℕ
three_digits n = (48 + n / 100) ∷ (48 + n / 10 % 10) ∷ (48 + n % 10) ∷ []

-- how a symbol is written
abbrev pub spelled : Symbol → List ℕ
spelled (Char c) = c ∷ []
spelled (SimpleEscape c) = 92 ∷ c ∷ []
spelled (DecimalEscape n) = 92 ∷ three_digits n

-- the octet that it stands for
abbrev pub octet : Symbol → ℕ
octet (Char c) = c
octet (SimpleEscape c) = c
octet (DecimalEscape n) = n
