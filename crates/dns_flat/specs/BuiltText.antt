-- Symbols appended to a name that is built (RFC 1035 5.1).
use Rattle.std.specs.Prelude.{◌≡◌, ◌≤◌, ℕ, true, List, [], ◌∷◌, ◌++◌, Option, IsSome, if◌then◌else◌}
use Rattle.dns_label.specs.declared.symbol.Symbol.{Symbol}
use Rattle.std.specs.List.{flat_map}
use Rattle.std.specs.Iterator.{Yields}
use Rattle.dns_label.specs.Symbol.{IsSymbol, octet, spelled}
use Rattle.dns_label.specs.Taken.{RulesOut}
use Rattle.dns_label.specs.ReadSymbol.{GoesOnInSymbols}
use Rattle.dns_label.specs.NameText.{is_dot}
use Rattle.dns_wire.specs.Built.{Built, built_len, open_len, with_octets, ended}
use Rattle.dns_wire.specs.declared.text.PresentationError.{PresentationError}
use Rattle.dns_wire.specs.declared.text.FromStrError.{FromStrError}
use Rattle.dns_wire.specs.declared.text.FromStrError.TheVariants.{Presentation, ShortBuf}

-- a dot ends the open label, and another symbol adds its octet to it
abbrev pub put_symbol : Built → Symbol → Built
put_symbol built symbol = if is_dot symbol then ended built else with_octets built (octet symbol ∷ [])

-- it is a symbol of text, a dot has a label to end, and nothing gets too long
pub record MayPut (built : Built) (symbol : Symbol) : Type 0 where
  pub is_symbol : IsSymbol symbol
  pub ends : is_dot symbol ≡ true → IsSome built.begun
  pub short_name : built_len (put_symbol built symbol) ≤ 254
  pub short_label : open_len (put_symbol built symbol) ≤ 63

-- the same for a list of symbols, one after another
abbrev pub Puts : Built → List Symbol → Built → Type 0
Puts built [] end = built ≡ end
Puts built (symbol ∷ symbols) end = MayPut built symbol × Puts (put_symbol built symbol) symbols end

-- why a symbol was not put: it may not be, or there is no room or no memory
abbrev pub IsNotPut : Built → Symbol → FromStrError → Type 0
IsNotPut built symbol (Presentation error) = MayPut built symbol → ⊥
IsNotPut built symbol ShortBuf = MayPut built symbol

-- Why characters were not all put: their symbols stop at one that was not put, or they stop where no symbol begins. All
-- before was put.
pub data StopsPutting {C : Type 0} (steps : C → Option ℕ → C → Type 0) (start : C) (old new : Built) : FromStrError → Type 0 where
  at_symbol : {error : FromStrError} (symbols : List Symbol) (symbol : Symbol) (end : C)
      → Yields steps start (flat_map spelled (symbols ++ symbol ∷ [])) end
      → Puts old symbols new
      → IsNotPut new symbol error
      → StopsPutting steps start old new error
  at_characters : {error : PresentationError} (symbols : List Symbol) (here : C)
      → Yields steps start (flat_map spelled symbols) here
      → RulesOut steps here GoesOnInSymbols
      → Puts old symbols new
      → StopsPutting steps start old new (Presentation error)
