-- Octets in base 16 that are appended to others. Only contracts inside the crate name them.
use Rattle.std.specs.Prelude.{◌≡◌, ◌+◌, ◌*◌, ◌<◌, ℕ, List, [], ◌∷◌, ◌++◌}
use Rattle.std.specs.Char.{digit_value}
use Rattle.std.specs.Str.{chars}
use Rattle.dns_scan.specs.Encodings.{Decodes16}
use Rattle.dns_scan.specs.Token.{IsEntry, IsWord, Token}

-- All tokens are words, which are joined a text of octets in base 16, and none is left. The octets follow the old ones.
pub record AppendsHex (tokens left : List Token) (old new : List ℕ) : Type 0 where
  pub text : List ℕ
  pub octets : List ℕ
  pub entry : IsEntry IsWord tokens text
  pub decodes : Decodes16 (chars text) octets
  pub none : left ≡ []
  pub behind : new ≡ old ++ octets

-- the tokens are no such text
abbrev pub SpellsNoHex : List Token → Type 0
SpellsNoHex tokens = (text octets : List ℕ) → IsEntry IsWord tokens text → Decodes16 (chars text) octets → ⊥

-- a hexadecimal digit, in upper or lower case
abbrev pub IsHexDigit : ℕ → Type 0
IsHexDigit octet = digit_value octet < 16

-- the digits spell the octets, two digits for each (RFC 4648 8)
abbrev pub SpellsPairs : List ℕ → List ℕ → Type 0
SpellsPairs [] octets = octets ≡ []
SpellsPairs (_ ∷ []) octets = ⊥
SpellsPairs (high ∷ low ∷ digits) octets =
    (more : List ℕ) × IsHexDigit high × IsHexDigit low × (octets ≡ (16 * digit_value high + digit_value low) ∷ more) × SpellsPairs digits more

-- The text begins with digits in pairs, and the others are left. The octets of the pairs follow the old ones.
pub record AppendsPairs (text left old new : List ℕ) : Type 0 where
  pub digits : List ℕ
  pub octets : List ℕ
  pub is : text ≡ digits ++ left
  pub spells : SpellsPairs digits octets
  pub behind : new ≡ old ++ octets

-- the text does not begin with two digits
abbrev pub BeginsWithNoPair : List ℕ → Type 0
BeginsWithNoPair text = (high low : ℕ) (behind : List ℕ) → text ≡ high ∷ low ∷ behind → IsHexDigit high → IsHexDigit low → ⊥

-- The text of the first token is digits in pairs, whose octets follow the old ones.
pub record BeginsWithPairs (tokens : List Token) (old new : List ℕ) : Type 0 where
  pub token : Token
  pub left : List Token
  pub is : tokens ≡ token ∷ left
  pub octets : List ℕ
  pub spells : SpellsPairs token.text octets
  pub behind : new ≡ old ++ octets
