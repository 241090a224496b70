-- What a row of a zone file says by itself (RFC 1035 5.1, RFC 2308 4). Of the rows before it, only the origin of names
-- counts.
use Rattle.std.specs.Prelude.{◌≡◌, ◌^◌, ℕ, List, [], ◌∷◌, Option, Some, None, true, false, map, codes}
use Rattle.std.specs.Char.{to_ascii_lowercase}
use Rattle.std.specs.Str.{IsAscii}
use Rattle.dns_values.specs.Mnemonic.{number_spelled}
use Rattle.dns_scan.specs.Token.{Token, IsWord, SpellsOctets, unquoted}
use Rattle.dns_text.specs.Rows.{TokenRow}
use Rattle.dns_entry_scanner.specs.RecordHead.{HasHead}
use Rattle.dns_rdata.specs.Data.{Data, ScansAnyData, number_of}

-- a record as a row states it: its owner, TTL and class, each if the row has it, and its data
pub record Stated : Type 0 where
  pub owner : Option (List (List ℕ))
  pub ttl : Option ℕ
  pub class : Option ℕ
  pub rdata : Data

pub data Statement : Type 0 where
  -- `$ORIGIN`
  SetOrigin : List (List ℕ) → Statement
  -- `$TTL`
  SetTtl : ℕ → Statement
  -- `$INCLUDE`: the path of another file, and the origin for it, if one is stated
  NameFile : List ℕ → Option (List (List ℕ)) → Statement
  StateRecord : Stated → Statement

-- which names texts spell
abbrev pub Names : Type 1
Names = List ℕ → List (List ℕ) → Type 0

-- the token is this word up to ASCII case, its letters and the dollar sign before them plain
abbrev pub IsDirectiveWord : List ℕ → Token → Type 0
IsDirectiveWord word token = (text : List ℕ) × (token ≡ unquoted text) × (map to_ascii_lowercase text ≡ word)

-- the row is a directive: it does not begin with white space, and its first token begins with a plain dollar sign
pub record IsDirective (row : TokenRow) : Type 0 where
  pub unled : row.blank_led ≡ false
  pub text : List ℕ
  pub others : List Token
  pub is : row.tokens ≡ unquoted (36 ∷ text) ∷ others

-- what a directive says
pub data Directs (names : Names) : List Token → Statement → Type 0 where
  origin : {word : Token} {text : List ℕ} {name : List (List ℕ)} → IsDirectiveWord (codes "$origin") word → names text name
      → Directs names (word ∷ unquoted text ∷ []) (SetOrigin name)
  ttl : {word token : Token} {text : List ℕ} {seconds : ℕ} → IsDirectiveWord (codes "$ttl") word → IsWord text token
      → number_spelled (2 ^ 32) text ≡ Some seconds → Directs names (word ∷ token ∷ []) (SetTtl seconds)
  include : {word token : Token} {text path : List ℕ} → IsDirectiveWord (codes "$include") word → token ≡ unquoted text
      → SpellsOctets path token → IsAscii path → Directs names (word ∷ token ∷ []) (NameFile path None)
  include_at : {word token : Token} {text path origin_text : List ℕ} {name : List (List ℕ)}
      → IsDirectiveWord (codes "$include") word → token ≡ unquoted text → SpellsOctets path token → IsAscii path
      → names origin_text name → Directs names (word ∷ token ∷ unquoted origin_text ∷ []) (NameFile path (Some name))

-- The owner that a row states, and the tokens after it. A row that begins with white space states none: it has the last
-- one.
pub data HasOwner (names : Names) : TokenRow → Option (List (List ℕ)) → List Token → Type 0 where
  last : {tokens : List Token} → HasOwner names (record { blank_led = true; tokens = tokens }) None tokens
  own : {text : List ℕ} {name : List (List ℕ)} {tokens : List Token} → names text name
      → HasOwner names (record { blank_led = false; tokens = unquoted text ∷ tokens }) (Some name) tokens

-- The row is a record: its owner, what is stated, its type, and data of the type up to the row's end.
pub record StatesRecord (names : Names) (row : TokenRow) (stated : Stated) : Type 0 where
  pub no_directive : IsDirective row → ⊥
  pub tokens : List Token
  pub owner : HasOwner names row stated.owner tokens
  pub data_tokens : List Token
  pub head : HasHead tokens stated.ttl stated.class (number_of stated.rdata) data_tokens
  pub scans : ScansAnyData names (number_of stated.rdata) stated.rdata data_tokens []

-- what a row with tokens says
pub data Says (names : Names) (row : TokenRow) : Statement → Type 0 where
  directive : {statement : Statement} → IsDirective row → Directs names row.tokens statement → Says names row statement
  resource : {stated : Stated} → StatesRecord names row stated → Says names row (StateRecord stated)
