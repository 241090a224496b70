-- How the text of a zone file is cut into rows of tokens (RFC 1035 5.1).
use Rattle.std.specs.Prelude.{◌≡◌, ◌==◌, ◌||◌, ◌<◌, ℕ, Bool, true, false, List, [], ◌∷◌, ◌++◌, length, Option, Some, None, not}
use Rattle.std.specs.Prelude.{if◌then◌else◌, ⊤}
use Rattle.std.specs.List.{AllByRecursion, flat_map}
use Rattle.dns_label.specs.declared.symbol.Symbol.{Symbol}
use Rattle.dns_label.specs.declared.symbol.Symbol.TheVariants.{Char}
use Rattle.dns_label.specs.Symbol.{IsSymbol, spelled}
use Rattle.dns_scan.specs.Token.{Token}

-- white space other than a line feed: a space, a tab, a carriage return
abbrev pub is_gap : ℕ → Bool
is_gap octet = (octet == 32) || ((octet == 9) || (octet == 13))

-- what an octet means between two tokens, outside or inside parentheses
pub data Head : Type 0 where
  -- nothing: what follows is inside parentheses or not
  Go : Bool → Head
  Comment : Head
  Feed : Head
  Quote : Head
  Word : Head
  Refused : Head

-- A line feed ends a row outside parentheses, and is white space inside. Parentheses don't nest.
abbrev pub head_of : Bool → ℕ → Head
head_of inside octet =
    if is_gap octet then Go inside
    else (if octet == 10 then (if inside then Go true else Feed)
    else (if octet == 40 then (if inside then Refused else Go true)
    else (if octet == 41 then (if inside then Go false else Refused)
    else (if octet == 59 then Comment else (if octet == 34 then Quote else Word)))))

-- A quote is only escaped in a quoted token; a space, `"`, `(`, `)` and `;` are only escaped in an unquoted one.
abbrev pub stands_plain : Bool → ℕ → Bool
stands_plain true octet = if octet == 34 then false else true
stands_plain false octet =
    if (octet == 32) || ((octet == 34) || ((octet == 40) || ((octet == 41) || (octet == 59)))) then false else true

abbrev pub Stands : Bool → Symbol → Type 0
Stands quoted (Char c) = stands_plain quoted c ≡ true
Stands quoted _ = ⊤

-- a symbol that may be in a token
abbrev pub IsIn : Bool → Symbol → Type 0
IsIn quoted symbol = IsSymbol symbol × Stands quoted symbol

-- the text doesn't go on with a symbol of the token
abbrev pub EndsToken : Bool → List ℕ → Type 0
EndsToken quoted text = (symbol : Symbol) (rest : List ℕ) → IsIn quoted symbol → text ≡ spelled symbol ++ rest → ⊥

-- the text starts with a longest run of a token's symbols
pub record IsRun (quoted : Bool) (text front rest : List ℕ) : Type 0 where
  pub symbols : List Symbol
  pub each : AllByRecursion (IsIn quoted) symbols
  pub written : front ≡ flat_map spelled symbols
  pub whole : text ≡ front ++ rest
  pub longest : EndsToken quoted rest

-- what is left of a comment's text from its line feed on
abbrev pub from_feed : List ℕ → List ℕ
from_feed [] = []
from_feed (octet ∷ rest) = if octet == 10 then octet ∷ rest else from_feed rest

-- From a place inside parentheses or outside, the next token of the row, or none at its end; then whether what follows
-- is inside, and what is left.
pub data Next : Bool → List ℕ → Option Token → Bool → List ℕ → Type 0 where
  ended : {inside : Bool} {rest : List ℕ} (octet : ℕ) → head_of inside octet ≡ Feed → Next inside (octet ∷ rest) None false rest
  goes : {inside : Bool} {text : List ℕ} {found : Option Token} {out : Bool} {rest : List ℕ} (octet : ℕ) (behind : Bool)
      → head_of inside octet ≡ Go behind → Next behind text found out rest → Next inside (octet ∷ text) found out rest
  comment : {inside : Bool} {text : List ℕ} {found : Option Token} {out : Bool} {rest : List ℕ} (octet : ℕ)
      → head_of inside octet ≡ Comment → Next inside (from_feed text) found out rest → Next inside (octet ∷ text) found out rest
  quoted : {inside : Bool} {text front rest : List ℕ} (octet : ℕ) → head_of inside octet ≡ Quote
      → IsRun true text front (34 ∷ rest) → Next inside (octet ∷ text) (Some (record { quoted = true; text = front })) inside rest
  unquoted : {inside : Bool} {text front rest : List ℕ} (octet : ℕ) → head_of inside octet ≡ Word
      → IsRun false (octet ∷ text) front rest → 0 < length front
      → Next inside (octet ∷ text) (Some (record { quoted = false; text = front })) inside rest

-- the tokens of a row, and what is left after its line feed
pub data Row : Bool → List ℕ → List Token → List ℕ → Type 0 where
  end : {inside : Bool} {text rest : List ℕ} → Next inside text None false rest → Row inside text [] rest
  token : {inside : Bool} {text rest : List ℕ} {found : Token} {others : List Token} (out : Bool) (behind : List ℕ)
      → Next inside text (Some found) out behind → Row out behind others rest → Row inside text (found ∷ others) rest

abbrev pub has_feed : List ℕ → Bool
has_feed [] = false
has_feed (octet ∷ rest) = if octet == 10 then true else has_feed rest

-- A rest without its line feed is no row. Without a token or a parenthesis in it, it is the end of the text.
abbrev pub is_end : List ℕ → Bool
is_end [] = true
is_end (octet ∷ rest) = if is_gap octet then is_end rest else (if octet == 59 then not (has_feed rest) else false)
