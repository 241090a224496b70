-- The ends of tokens. Only contracts inside the crate name them.
use Rattle.std.specs.Prelude.{◌≡◌, ◌-◌, ℕ, Bool, List, ◌∷◌, ◌++◌, take, drop}
use Rattle.dns_label.specs.declared.symbol.Symbol.{Symbol}
use Rattle.dns_label.specs.Symbol.{IsSymbol, spelled}
use Rattle.dns_text.specs.Tokens.{IsRun}
use Rattle.dns_entry_scanner.specs.TokenSpan.{has_backslash}
use Rattle.dns_entry_scanner.specs.declared.token_end.TokenEnd.{TokenEnd}

-- the octets from one place to another
abbrev pub between : ℕ → ℕ → List ℕ → List ℕ
between start end text = take (end - start) (drop start text)

-- the longest run of symbols from the place on ends there
pub record RunsTo (quoted : Bool) (text : List ℕ) (place : ℕ) (end : TokenEnd) : Type 0 where
  pub run : IsRun quoted (drop place text) (between place end.place text) (drop end.place text)
  pub marked : end.has_escape ≡ has_backslash (between place end.place text)

-- a symbol that begins with a backslash, before the rest
pub record HasEscape (text rest : List ℕ) : Type 0 where
  pub symbol : Symbol
  pub octets : List ℕ
  pub is_symbol : IsSymbol symbol
  pub escape : spelled symbol ≡ 92 ∷ octets
  pub whole : text ≡ spelled symbol ++ rest

-- there is no escape
abbrev pub NoEscape : List ℕ → Type 0
NoEscape text = (rest : List ℕ) → HasEscape text rest → ⊥
