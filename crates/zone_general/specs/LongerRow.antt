-- Rows by the table that has the further types too: each reads as its general row does, in which the data of a further type is in
-- the general form of RFC 3597 5.
use Rattle.std.specs.Prelude.{◌≡◌, ◌⊎◌, ℕ, Bool, true, false, List, [], ◌∷◌, ◌++◌, map, codes, decimal, Some, None, is_some, if◌then◌else◌}
use Rattle.std.specs.List.{AllByRecursion}
use Rattle.dns_values.specs.Mnemonic.{type_read}
use Rattle.dns_name.specs.UnknownText.{unknown_words}
use Rattle.dns_scan.specs.Token.{Token, marker, unquoted}
use Rattle.dns_scan.specs.UnknownData.{IsUnknownData}
use Rattle.dns_text.specs.Rows.{TokenRow}
use Rattle.dns_fields.specs.Fields.{Field, octets}
use Rattle.dns_fields_more.specs.Forms.{forms_of}
use Rattle.dns_fields_more.specs.Text.{ScansFurther}
use Rattle.dns_field_texts.specs.TypeWords.{type_word_read}
use Rattle.dns_zonefile.specs.Statement.{IsDirective, Names}

-- the token is a word for the type
pub record IsTypeWord (rtype : ℕ) (token : Token) : Type 0 where
  pub bare : token.quoted ≡ false
  pub reads : type_word_read token.text ≡ Some rtype

-- the token is a word for no type
abbrev pub IsNoTypeWord : Token → Type 0
IsNoTypeWord token = (rtype : ℕ) → IsTypeWord rtype token → ⊥

-- the tokens of a row before its data: its owner, unless the row begins with white space, and others
pub data HasFront : Bool → List Token → List Token → Type 0 where
  last : {others : List Token} → HasFront true others others
  own : {owner : Token} {others : List Token} → HasFront false (owner ∷ others) others

-- The row is no directive. Behind its owner and these other tokens is the first word for a type, this one, and then its data.
pub record HasType (row : TokenRow) (front : List Token) (word : Token) (rtype : ℕ) (data' : List Token) : Type 0 where
  pub no_directive : IsDirective row → ⊥
  pub is : row.tokens ≡ front ++ word ∷ data'
  pub others : List Token
  pub has_front : HasFront row.blank_led front others
  pub first : AllByRecursion IsNoTypeWord others
  pub type : IsTypeWord rtype word

-- the data is in general form
pub record IsMarked (data' : List Token) : Type 0 where
  pub words : List Token
  pub is : data' ≡ marker ∷ words

-- a word that zone readers know that know no further types
abbrev pub IsKnown : Token → Type 0
IsKnown word = is_some (type_read word.text) ≡ true

-- The row reads as it stands: it has no type; or its word is known, and its data is in general form, or of a type that is no further
-- one.
abbrev pub Stands : TokenRow → Type 0
Stands row =
    (front : List Token) (word : Token) (rtype : ℕ) (data' : List Token) → HasType row front word rtype data'
    → IsKnown word × (IsMarked data' ⊎ (forms_of rtype ≡ None))

-- The tokens are data of the type, with these octets: in general form, or the fields of a further type.
pub data ScansLonger (names : Names) (rtype : ℕ) : List Token → List ℕ → Type 0 where
  marked : {words : List Token} {octets : List ℕ} → IsUnknownData words octets → ScansLonger names rtype (marker ∷ words) octets
  fields : {tokens : List Token} {row : List Field} → (IsMarked tokens → ⊥) → ScansFurther names rtype row tokens []
      → ScansLonger names rtype tokens (octets row)

-- the general form of data
abbrev pub general_tokens : List ℕ → List Token
general_tokens octets = map unquoted (unknown_words octets)

-- a known word for the type
abbrev pub known_word : Token → ℕ → List ℕ
known_word word rtype = if is_some (type_read word.text) then word.text else codes "TYPE" ++ decimal rtype

-- the row with these tokens
abbrev pub with_tokens : TokenRow → List Token → TokenRow
with_tokens row tokens = record { blank_led = row.blank_led; tokens = tokens }

-- The general row of a row: itself, or with a known word for its type and its data in general form.
pub data IsGeneralRow (names : Names) (row : TokenRow) : TokenRow → Type 0 where
  same : Stands row → IsGeneralRow names row row
  further : {front data' : List Token} {word : Token} {rtype : ℕ} {octets : List ℕ} → (Stands row → ⊥) → HasType row front word rtype data'
      → ScansLonger names rtype data' octets
      → IsGeneralRow names row (with_tokens row (front ++ unquoted (known_word word rtype) ∷ general_tokens octets))
