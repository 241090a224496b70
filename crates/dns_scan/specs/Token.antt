-- Tokens of a text that is scanned (RFC 1035 5.1).
use Rattle.std.specs.Prelude.{◌≡◌, ◌↔◌, ◌==◌, ◌||◌, ℕ, Bool, true, false, List, [], ◌∷◌, ◌++◌}
use Rattle.std.specs.List.{list_all}
use Rattle.dns_scan.specs.CharStr.{string_wire}
use Rattle.dns_label.specs.Symbol.{is_plain}
use Rattle.dns_scan.specs.StringText.{Spells, IsStringText}

-- a token: whether it is quoted, and its text as it is written, without the quotes
pub record Token : Type 0 where
  pub quoted : Bool
  pub text : List ℕ

-- an unquoted token
abbrev pub unquoted : List ℕ → Token
unquoted text = record { quoted = false; text = text }

-- the tokens left are a suffix of those before
pub record IsEnding (left before : List Token) : Type 0 where
  pub taken : List Token
  pub is : before ≡ taken ++ left

-- the first of the tokens has a property, and the others are left
pub record Takes (Fits : Token → Type 0) (before left : List Token) : Type 0 where
  pub token : Token
  pub is : before ≡ token ∷ left
  pub fits : Fits token

-- white space: a space, a tab, a line feed, a carriage return
abbrev pub is_white : ℕ → Bool
is_white octet = (octet == 32) || ((octet == 9) || ((octet == 10) || (octet == 13)))

-- the octets before a token end with white space
abbrev pub ends_white : List ℕ → Bool
ends_white [] = false
ends_white (octet ∷ []) = is_white octet
ends_white (_ ∷ octet ∷ octets) = ends_white (octet ∷ octets)

-- the token's text
abbrev pub HasText : List ℕ → Token → Type 0
HasText text token = token.text ≡ text

-- the token spells octets, each by a symbol
abbrev pub SpellsOctets : List ℕ → Token → Type 0
SpellsOctets octets token = Spells token.text octets

-- the token spells a character string
abbrev pub SpellsString : List ℕ → Token → Type 0
SpellsString string token = IsStringText token.text string

-- the token is a word: unquoted, and without a backslash
abbrev pub IsWord : List ℕ → Token → Type 0
IsWord text token = (token ≡ unquoted text) × (list_all is_plain text ≡ true)

-- the marker of unknown data: the unquoted `\#` (RFC 3597 5)
abbrev pub marker : Token
marker = unquoted (92 ∷ 35 ∷ [])

-- each of the tokens has a piece, and the pieces one after another are the whole
abbrev pub IsEntry : {A : Type 0} → (List A → Token → Type 0) → List Token → List A → Type 0
IsEntry IsPiece [] whole = whole ≡ []
IsEntry {A} IsPiece (token ∷ tokens) whole =
    (piece : List A) × (more : List A) × IsPiece piece token × IsEntry IsPiece tokens more × (whole ≡ piece ++ more)

-- the token's string as it is on the wire
abbrev pub IsStringOnWire : List ℕ → Token → Type 0
IsStringOnWire wire token = (string : List ℕ) × SpellsString string token × (wire ≡ string_wire string)

-- two places at which a text spells the same names
abbrev pub SameNames : (List ℕ → List (List ℕ) → Type 0) → (List ℕ → List (List ℕ) → Type 0) → Type 0
SameNames old new = (text : List ℕ) (name : List (List ℕ)) → old text name ↔ new text name
