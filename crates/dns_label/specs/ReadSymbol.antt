-- Reading symbols off an iterator of characters (RFC 1035, section 5.1).
use Rattle.std.specs.Prelude.{◌≡◌, ◌<◌, ◌≤◌, ◌+◌, ◌⊎◌, ℕ, List, [], ◌∷◌, ◌++◌, length, Option, Some, None, Result, Ok, Err}
use Rattle.std.specs.Iterator.{Yields, Drains}
use Rattle.std.specs.List.{AllByRecursion}
use Rattle.dns_label.specs.declared.symbol.Symbol.{Symbol}
use Rattle.dns_label.specs.declared.symbol.SymbolCharsError.{SymbolCharsError}
use Rattle.dns_label.specs.declared.symbol.SymbolCharsError.TheVariants.{BadChar, BadEscape, ShortInput}
use Rattle.dns_label.specs.Symbol.{IsPrintable, IsSymbol, spelled}
use Rattle.dns_label.specs.Taken.{RulesOut}

-- the text begins with a symbol
pub record BeginsWithSymbol (text : List ℕ) : Type 0 where
  pub symbol : Symbol
  pub rest : List ℕ
  pub is_symbol : IsSymbol symbol
  pub written : text ≡ spelled symbol ++ rest

-- the text is empty, or begins with a symbol
abbrev pub GoesOnInSymbols : List ℕ → Type 0
GoesOnInSymbols text = (text ≡ []) ⊎ BeginsWithSymbol text

-- the text begins with a decimal digit
pub record BeginsWithDigit (text : List ℕ) : Type 0 where
  pub value : ℕ
  pub rest : List ℕ
  pub small : value < 10
  pub written : text ≡ (48 + value) ∷ rest

-- the characters of one symbol are taken, or there is no character, or there is one and no symbol
abbrev pub ReadsSymbol : {S : Type 0} → (S → Option ℕ → S → Type 0) → S → Result (Option Symbol) SymbolCharsError → S → Type 0
ReadsSymbol steps start (Ok (Some symbol)) end = IsSymbol symbol × Yields steps start (spelled symbol) end
ReadsSymbol steps start (Ok None) end = steps start None end
ReadsSymbol steps start (Err error) end = RulesOut steps start GoesOnInSymbols

abbrev pub IsDigit : ℕ → Type 0
IsDigit c = (48 ≤ c) × (c ≤ 57)

-- the error if a digit is wanted: the character is no digit, or no character is left
abbrev pub IsDigitFault : {S : Type 0} → (S → Option ℕ → S → Type 0) → S → SymbolCharsError → Type 0
IsDigitFault steps start BadChar = ⊥
IsDigitFault {S} steps start BadEscape = (c : ℕ) × (here : S) × steps start (Some c) here × (IsDigit c → ⊥)
IsDigitFault steps start ShortInput = Drains steps start []

-- the error after a backslash: whatever follows the characters taken, no symbol begins at the backslash; or the
-- characters end before the third digit
abbrev pub IsEscapeFault : {S : Type 0} → (S → Option ℕ → S → Type 0) → S → SymbolCharsError → Type 0
IsEscapeFault steps start BadChar = ⊥
IsEscapeFault {S} steps start BadEscape =
    (taken : List ℕ) × (here : S) × Yields steps start taken here × ((rest : List ℕ) → BeginsWithSymbol (92 ∷ taken ++ rest) → ⊥)
IsEscapeFault steps start ShortInput =
    (digits : List ℕ) × AllByRecursion IsDigit digits × (length digits < 3) × Drains steps start digits

-- the error in place of a symbol: the first character is not printable, or it is a backslash and a fault follows
abbrev pub IsSymbolFault : {S : Type 0} → (S → Option ℕ → S → Type 0) → S → SymbolCharsError → Type 0
IsSymbolFault {S} steps start BadChar = (c : ℕ) × (here : S) × steps start (Some c) here × (IsPrintable c → ⊥)
IsSymbolFault {S} steps start BadEscape = (here : S) × steps start (Some 92) here × IsEscapeFault steps here BadEscape
IsSymbolFault {S} steps start ShortInput = (here : S) × steps start (Some 92) here × IsEscapeFault steps here ShortInput
