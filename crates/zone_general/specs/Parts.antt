-- The octets of a row: its tokens as they are written, and what is between them (RFC 1035 5.1).
use Rattle.std.specs.Prelude.{◌≡◌, ◌<◌, ◌==◌, ◌||◌, ℕ, Bool, true, false, List, [], ◌∷◌, ◌++◌, length, map, if◌then◌else◌}
use Rattle.std.specs.List.{flat_map}
use Rattle.dns_scan.specs.Token.{Token}
use Rattle.dns_text.specs.DocumentRows.{AreSymbols}
use Rattle.dns_text.specs.Tokens.{head_of, has_feed, is_gap}
use Rattle.dns_text.specs.Tokens.Head.{Go}

-- Octets between two tokens, from a place inside parentheses or outside to such a place: white space and parentheses, and inside
-- them line feeds and comments.
pub data IsGap : Bool → List ℕ → Bool → Type 0 where
  none : {inside : Bool} → IsGap inside [] inside
  goes : {inside behind out : Bool} {octet : ℕ} {gap : List ℕ} → head_of inside octet ≡ Go behind → IsGap behind gap out
      → IsGap inside (octet ∷ gap) out
  comment : {out : Bool} {gap : List ℕ} (text : List ℕ) → has_feed text ≡ false → IsGap true (10 ∷ gap) out
      → IsGap true (59 ∷ (text ++ 10 ∷ gap)) out

-- nothing, or a comment
pub data IsComment : List ℕ → Type 0 where
  nothing : IsComment []
  comment : {text : List ℕ} → has_feed text ≡ false → IsComment (59 ∷ text)

-- the octets behind the last token of a row, with its line feed
pub record EndsRow (inside : Bool) (octets : List ℕ) : Type 0 where
  pub gap : List ℕ
  pub comment : List ℕ
  pub is_gap : IsGap inside gap false
  pub is_comment : IsComment comment
  pub written : octets ≡ gap ++ (comment ++ 10 ∷ [])

-- a token with the octets before it
pub record Part : Type 0 where
  pub gap : List ℕ
  pub token : Token

-- how a token is written
abbrev pub token_octets : Token → List ℕ
token_octets token = if token.quoted then 34 ∷ (token.text ++ 34 ∷ []) else token.text

abbrev pub part_octets : Part → List ℕ
part_octets part = part.gap ++ token_octets part.token

-- parts, and what is behind the last one
abbrev pub row_octets : List Part → List ℕ → List ℕ
row_octets parts last = flat_map part_octets parts ++ last

abbrev pub tokens_of : List Part → List Token
tokens_of parts = map (λ part. part.token) parts

-- the octets of a token: symbols, and at least one if it is not quoted
pub record IsToken (token : Token) : Type 0 where
  pub symbols : AreSymbols token.quoted token.text
  pub some : token.quoted ≡ false → 0 < length token.text

-- an octet that ends an unquoted token: white space, a line feed, a quote, a parenthesis, a semicolon
abbrev pub ends_word : ℕ → Bool
ends_word octet =
    is_gap octet || ((octet == 10) || ((octet == 34) || ((octet == 40) || ((octet == 41) || (octet == 59)))))

-- the first of the octets does
pub record BeginsWithEnd (octets : List ℕ) : Type 0 where
  pub octet : ℕ
  pub rest : List ℕ
  pub is : octets ≡ octet ∷ rest
  pub ends : ends_word octet ≡ true

-- The parts and what is behind them are a row, from a place inside parentheses or outside.
pub data AreParts : Bool → List Part → List ℕ → Type 0 where
  ended : {inside : Bool} {last : List ℕ} → EndsRow inside last → AreParts inside [] last
  more : {inside out : Bool} {part : Part} {parts : List Part} {last : List ℕ} → IsGap inside part.gap out → IsToken part.token
      → (part.token.quoted ≡ false → BeginsWithEnd (row_octets parts last)) → AreParts out parts last → AreParts inside (part ∷ parts) last
