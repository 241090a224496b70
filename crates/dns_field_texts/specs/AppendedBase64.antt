-- Octets in base 64 that are appended to others (RFC 4648, section 4).
use Rattle.std.specs.Prelude.{◌≡◌, ◌%◌, ◌<◌, ℕ, List, [], ◌∷◌, ◌++◌, length}
use Rattle.std.specs.Str.{chars}
use Rattle.dns_scan.specs.Base.{Groups}
use Rattle.dns_scan.specs.Encodings.{Decodes64}
use Rattle.dns_scan.specs.Token.{IsEntry, IsWord, Takes, Token}
use Rattle.dns_scan.specs.declared.encoding.base.Base.TheVariants.{SixtyFour}

-- All tokens are words, which are joined a text of octets in base 64, and none is left. The octets follow the old ones.
pub record AppendsBase64 (tokens left : List Token) (old new : List ℕ) : Type 0 where
  pub text : List ℕ
  pub octets : List ℕ
  pub entry : IsEntry IsWord tokens text
  pub decodes : Decodes64 (chars text) octets
  pub none : left ≡ []
  pub behind : new ≡ old ++ octets

-- the tokens are no such text
abbrev pub SpellsNoBase64 : List Token → Type 0
SpellsNoBase64 tokens = (text octets : List ℕ) → IsEntry IsWord tokens text → Decodes64 (chars text) octets → ⊥

-- The text begins with whole groups of four characters, and the others are left. The octets of the groups follow the old ones.
pub record AppendsGroups (text left old new : List ℕ) : Type 0 where
  pub front : List ℕ
  pub octets : List ℕ
  pub is : text ≡ front ++ left
  pub groups : Groups SixtyFour front octets
  pub whole : length front % 4 ≡ 0
  pub behind : new ≡ old ++ octets

-- The text of the first token is whole groups, whose octets follow the old ones.
pub record BeginsWithGroups (tokens : List Token) (old new : List ℕ) : Type 0 where
  pub token : Token
  pub left : List Token
  pub is : tokens ≡ token ∷ left
  pub octets : List ℕ
  pub groups : Groups SixtyFour token.text octets
  pub whole : length token.text % 4 ≡ 0
  pub behind : new ≡ old ++ octets

-- The text is one of octets with padding, which follow the old ones.
pub record AppendsPadded (text old new : List ℕ) : Type 0 where
  pub octets : List ℕ
  pub decodes : Decodes64 text octets
  pub some : 0 < decodes.text_of.pads
  pub behind : new ≡ old ++ octets

-- The text of the first token is.
pub record BeginsPadded (tokens : List Token) (old new : List ℕ) : Type 0 where
  pub token : Token
  pub left : List Token
  pub is : tokens ≡ token ∷ left
  pub appends : AppendsPadded token.text old new

-- the first token is a word, and no characters follow it
pub record IsLastWord (tokens : List Token) : Type 0 where
  pub word : List ℕ
  pub left : List Token
  pub takes : Takes (IsWord word) tokens left
  pub none : IsEntry IsWord left []
