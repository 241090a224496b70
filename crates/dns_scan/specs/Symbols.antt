-- The symbols of tokens, as they are handed over one after another (RFC 1035 5.1).
use Rattle.std.specs.Prelude.{◌≡◌, ◌++◌, ◌∷◌, [], ℕ, List, map, Result, Ok, Err}
use Rattle.std.specs.List.{AllByRecursion, FoldsTo, flat_map}
use Rattle.dns_label.specs.declared.symbol.Symbol.{Symbol}
use Rattle.dns_label.specs.Symbol.{IsSymbol, spelled}
use Rattle.dns_scan.specs.declared.symbols.entry_symbol.EntrySymbol.{EntrySymbol}
use Rattle.dns_scan.specs.declared.symbols.entry_symbol.EntrySymbol.TheVariants.{Symbol as Within, EndOfToken}
use Rattle.dns_scan.specs.Token.{Token}

-- the text is written by these symbols
pub record AreWritten (symbols : List Symbol) (text : List ℕ) : Type 0 where
  pub each : AllByRecursion IsSymbol symbols
  pub written : text ≡ flat_map spelled symbols

-- the token's text is written by these symbols
abbrev pub HasSymbols : List Symbol → Token → Type 0
HasSymbols symbols token = AreWritten symbols token.text

-- a token's symbols in an entry, and then the mark
abbrev pub marked : List Symbol → List EntrySymbol
marked symbols = map Within symbols ++ EndOfToken ∷ []

abbrev pub HasMarked : List EntrySymbol → Token → Type 0
HasMarked piece token = (symbols : List Symbol) × HasSymbols symbols token × (piece ≡ marked symbols)

-- an entry's symbols without the marks
abbrev pub symbols_in : List EntrySymbol → List Symbol
symbols_in [] = []
symbols_in (Within symbol ∷ others) = symbol ∷ symbols_in others
symbols_in (EndOfToken ∷ others) = symbols_in others

-- a closure took these one after another, and refused none; this is its state then
abbrev pub TakesAll : {F Sym E : Type 0} → (F → Sym → Result (Unit {0}) E → F → Type 0) → F → List Sym → F → Type 0
TakesAll step op symbols last = FoldsTo (λ before symbol after. step before symbol (Ok tt) after) op symbols last

-- a closure took some of these from the first on, and refused the next with this error
pub record RefusesOne {F Sym E : Type 0} (step : F → Sym → Result (Unit {0}) E → F → Type 0) (op : F) (symbols : List Sym) (error : E) : Type 0 where
  pub front : List Sym
  pub symbol : Sym
  pub others : List Sym
  pub is : symbols ≡ front ++ symbol ∷ others
  pub before : F
  pub takes : TakesAll step op front before
  pub after : F
  pub refuses : step before symbol (Err error) after

-- the closure refuses no symbol with this error
abbrev pub NeverAnswers : {F Sym E : Type 0} → (F → Sym → Result (Unit {0}) E → F → Type 0) → E → Type 0
NeverAnswers {F} {Sym} step error = (before after : F) (symbol : Sym) → step before symbol (Err error) after → ⊥
