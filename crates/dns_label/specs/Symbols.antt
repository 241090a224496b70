-- An iterator of the symbols that characters spell.
use Rattle.std.specs.Prelude.{◌≡◌, ℕ, Option, Some, None, Result, Ok, Err}
use Rattle.std.specs.Iterator.{Yields, Count, at_most}
use Rattle.dns_label.specs.declared.symbol.Symbol.{Symbol}
use Rattle.dns_label.specs.declared.symbol.SymbolCharsError.{SymbolCharsError}
use Rattle.dns_label.specs.declared.symbols.Symbols.{Symbols}
use Rattle.dns_label.specs.Symbol.{IsSymbol, spelled}
use Rattle.dns_label.specs.ReadSymbol.{GoesOnInSymbols, IsSymbolFault}
use Rattle.dns_label.specs.Taken.{RulesOut}

-- the characters that are left, or why no more are read
abbrev pub chars_of : {C : Type 0} → Symbols C → Result C SymbolCharsError
chars_of symbols = symbols.chars

-- A call gives the symbol that the characters spell, or None at their end. If they begin with no symbol it gives None,
-- and keeps the error from then on.
abbrev pub GivesSymbol : {C : Type 0} → (C → Option ℕ → C → Type 0) → Result C SymbolCharsError → Option Symbol
    → Result C SymbolCharsError → Type 0
GivesSymbol steps (Ok start) (Some symbol) (Ok end) = IsSymbol symbol × Yields steps start (spelled symbol) end
GivesSymbol steps (Ok start) (Some symbol) (Err error) = ⊥
GivesSymbol steps (Ok start) None (Ok end) = steps start None end
GivesSymbol steps (Ok start) None (Err error) = RulesOut steps start GoesOnInSymbols × IsSymbolFault steps start error
GivesSymbol steps (Err error) (Some symbol) end = ⊥
GivesSymbol steps (Err error) None end = end ≡ Err error

-- the greatest number of symbols that can still come
abbrev pub symbols_left : {C : Type 0} → (C → Count) → Result C SymbolCharsError → Count
symbols_left remaining (Ok chars) = remaining chars
symbols_left remaining (Err error) = at_most 0
