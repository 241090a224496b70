-- A name that a token spells, appended to octets.
use Rattle.std.specs.Prelude.{◌≡◌, ◌==◌, ◌<◌, ◌≤◌, ℕ, Bool, List, Some, false, ◌∷◌, ◌++◌, length, drop, not}
use Rattle.dns_label.specs.declared.symbol.Symbol.{Symbol}
use Rattle.dns_label.specs.Name.{IsName, wire}
use Rattle.dns_label.specs.NameText.{is_dot}
use Rattle.dns_label.specs.Symbol.{IsSymbol, octet, spelled}
use Rattle.dns_scan.specs.Token.{Token, unquoted}
use Rattle.dns_entry_scanner.specs.NameInText.{SpellsUnder}

-- The first of the tokens spells a name, and the others are left. The name's octets follow the old ones (RFC 1035 3.1).
pub record AppendsName (names : List ℕ → List (List ℕ) → Type 0) (tokens left : List Token) (old new : List ℕ) : Type 0 where
  pub text : List ℕ
  pub name : List (List ℕ)
  pub is : tokens ≡ unquoted text ∷ left
  pub spells : names text name
  pub is_name : IsName name
  pub behind : new ≡ old ++ wire name

-- the first of the tokens spells no name
abbrev pub SpellsNoName : (List ℕ → List (List ℕ) → Type 0) → List Token → Type 0
SpellsNoName names tokens = (text : List ℕ) (left : List Token) (name : List (List ℕ)) → tokens ≡ unquoted text ∷ left → names text name → ⊥

-- an octet other than the dot
abbrev pub is_no_dot : ℕ → Bool
is_no_dot octet = not (octet == 46)

-- a text of one label spells that label followed by the origin, and the octets of this name follow the old ones
pub record OneLabelUnder (text : List ℕ) (origin : List (List ℕ)) (old new : List ℕ) : Type 0 where
  pub spells : SpellsUnder (Some origin) text (text ∷ origin)
  pub is_name : IsName (text ∷ origin)
  pub behind : new ≡ old ++ wire (text ∷ origin)

-- the octets come first, and so many others of any value behind them
pub record HasBehind (room : ℕ) (octets all : List ℕ) : Type 0 where
  pub others : List ℕ
  pub long : length others ≡ room
  pub is : all ≡ octets ++ others

-- a symbol other than a dot is at the place of the text, up to the end
pub record EscapeAt (text : List ℕ) (start value end : ℕ) : Type 0 where
  pub symbol : Symbol
  pub is_symbol : IsSymbol symbol
  pub other : is_dot symbol ≡ false
  pub stands : octet symbol ≡ value
  pub written : drop start text ≡ spelled symbol ++ drop end text
  pub behind : start < end
  pub within : end ≤ length text
