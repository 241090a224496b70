-- Strings and texts that tokens spell, appended to octets.
use Rattle.std.specs.Prelude.{◌≡◌, ℕ, List, [], ◌++◌}
use Rattle.dns_scan.specs.CharStr.{string_wire}
use Rattle.dns_scan.specs.Token.{IsEntry, IsStringOnWire, SpellsOctets, SpellsString, Takes, Token}

-- The first of the tokens spells a character string, and the others are left. The string follows the old octets, its
-- length first (RFC 1035 3.3).
pub record AppendsString (tokens left : List Token) (old new : List ℕ) : Type 0 where
  pub string : List ℕ
  pub takes : Takes (SpellsString string) tokens left
  pub behind : new ≡ old ++ string_wire string

-- the first of the tokens spells no character string
abbrev pub SpellsNoString : List Token → Type 0
SpellsNoString tokens = (string : List ℕ) (left : List Token) → Takes (SpellsString string) tokens left → ⊥

-- the first of the tokens spells octets, which follow the old ones, and the others are left
pub record AppendsText (tokens left : List Token) (old new : List ℕ) : Type 0 where
  pub octets : List ℕ
  pub takes : Takes (SpellsOctets octets) tokens left
  pub behind : new ≡ old ++ octets

-- the first of the tokens spells no octets
abbrev pub SpellsNoOctets : List Token → Type 0
SpellsNoOctets tokens = (octets : List ℕ) (left : List Token) → Takes (SpellsOctets octets) tokens left → ⊥

-- All tokens spell character strings, which follow the old octets, each with its length first. None is left.
pub record AppendsStrings (tokens left : List Token) (old new : List ℕ) : Type 0 where
  pub octets : List ℕ
  pub entry : IsEntry IsStringOnWire tokens octets
  pub none : left ≡ []
  pub behind : new ≡ old ++ octets

-- one of the tokens spells no character string
abbrev pub SpellsNoStrings : List Token → Type 0
SpellsNoStrings tokens = (octets : List ℕ) → IsEntry IsStringOnWire tokens octets → ⊥
