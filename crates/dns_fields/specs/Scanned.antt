-- Data as text: the tokens of a row (RFC 1035 5.1).
use Rattle.std.specs.Prelude.{◌≡◌, ◌<◌, ◌≤◌, ◌^◌, ℕ, List, [], ◌∷◌, length, map, Some, ⊤}
use Rattle.std.specs.Str.{chars}
use Rattle.std.specs.Net.Grammar.{IsDotted, IsColonHex}
use Rattle.std.specs.Net.Addr.{octets_of}
use Rattle.dns_name.specs.Mnemonic.{number_spelled}
use Rattle.dns_scan.specs.Encodings.{Decodes16, Decodes64}
use Rattle.dns_scan.specs.Scans.{ScansWord}
use Rattle.dns_scan.specs.Token.{Token, Takes, IsWord, IsEntry, SpellsOctets, SpellsString, unquoted}
use Rattle.dns_fields.specs.Fields.{Kind, Field, number8, number16, number32, ipv4, ipv6, compressible, uncompressed, string, strings, tag, rest_text, rest16, rest64, kind_of, kinds_of, octets}

-- the first token spells the name where `names` says so
abbrev pub TakesName : (List ℕ → List (List ℕ) → Type 0) → List (List ℕ) → List Token → List Token → Type 0
TakesName names name tokens left = (text : List ℕ) × (tokens ≡ unquoted text ∷ left) × names text name

-- the tokens are the strings, one each
abbrev pub AreStrings : List Token → List (List ℕ) → Type 0
AreStrings [] [] = ⊤
AreStrings [] (octets ∷ each) = ⊥
AreStrings (token ∷ tokens) [] = ⊥
AreStrings (token ∷ tokens) (octets ∷ each) = SpellsString octets token × AreStrings tokens each

-- The tokens begin with the field's text, and these are left. Strings, and a rest in base 16 or 64, are all tokens.
abbrev pub ScansField : (List ℕ → List (List ℕ) → Type 0) → Field → List Token → List Token → Type 0
ScansField names (number8 n) tokens left = ScansWord (number_spelled (2 ^ 8)) tokens n left
ScansField names (number16 n) tokens left = ScansWord (number_spelled (2 ^ 16)) tokens n left
ScansField names (number32 n) tokens left = ScansWord (number_spelled (2 ^ 32)) tokens n left
ScansField names (ipv4 octets) tokens left = (text : List ℕ) × Takes (IsWord text) tokens left × IsDotted text octets
ScansField names (ipv6 octets) tokens left =
    (text : List ℕ) × (segments : List ℕ) × Takes (IsWord text) tokens left × IsColonHex text segments
    × (octets ≡ octets_of segments)
ScansField names (compressible name) tokens left = TakesName names name tokens left
ScansField names (uncompressed name) tokens left = TakesName names name tokens left
ScansField names (string octets) tokens left = Takes (SpellsString octets) tokens left
ScansField names (strings each) tokens left = (0 < length each) × AreStrings tokens each × (left ≡ [])
ScansField names (tag octets) tokens left = Takes (SpellsString octets) tokens left
ScansField names (rest_text octets) tokens left = Takes (SpellsOctets octets) tokens left
ScansField names (rest16 octets) tokens left =
    (text : List ℕ) × IsEntry IsWord tokens text × Decodes16 (chars text) octets × (left ≡ [])
ScansField names (rest64 octets) tokens left =
    (text : List ℕ) × IsEntry IsWord tokens text × Decodes64 (chars text) octets × (left ≡ [])

-- the tokens begin with the texts of the row's fields, in order and none missing
abbrev pub ScansRow : (List ℕ → List (List ℕ) → Type 0) → List Field → List Token → List Token → Type 0
ScansRow names [] tokens left = left ≡ tokens
ScansRow names (field ∷ row) tokens left =
    (behind : List Token) × ScansField names field tokens behind × ScansRow names row behind left

-- The tokens begin with the text of data of the type, which has at most 65,535 octets (RFC 1035 3.2.1).
pub record ScansData (names : List ℕ → List (List ℕ) → Type 0) (rtype : ℕ) (row : List Field) (tokens left : List Token) : Type 0 where
  pub kinds : kinds_of rtype ≡ Some (map kind_of row)
  pub scanned : ScansRow names row tokens left
  pub short : length (octets row) ≤ 65535

-- they begin with the texts of a type's fields, which have more octets than that
pub record ScansLong (names : List ℕ → List (List ℕ) → Type 0) (rtype : ℕ) (tokens : List Token) : Type 0 where
  pub row : List Field
  pub left : List Token
  pub kinds : kinds_of rtype ≡ Some (map kind_of row)
  pub scanned : ScansRow names row tokens left
  pub long : 65535 < length (octets row)

-- the tokens begin with no text of a field of the kind, none of fields of the kinds
abbrev pub NoFieldScans : (List ℕ → List (List ℕ) → Type 0) → Kind → List Token → Type 0
NoFieldScans names kind tokens = (field : Field) (left : List Token) → kind_of field ≡ kind → ScansField names field tokens left → ⊥

abbrev pub NoRowScans : (List ℕ → List (List ℕ) → Type 0) → List Kind → List Token → Type 0
NoRowScans names kinds tokens =
    (row : List Field) (left : List Token) → map kind_of row ≡ kinds → ScansRow names row tokens left → ⊥

-- If the tokens do not begin with such a text of too many octets, they begin with none of data of the type.
abbrev pub NoDataScans : (List ℕ → List (List ℕ) → Type 0) → ℕ → List Token → Type 0
NoDataScans names rtype tokens =
    (ScansLong names rtype tokens → ⊥) → (row : List Field) (left : List Token) → ScansData names rtype row tokens left → ⊥
