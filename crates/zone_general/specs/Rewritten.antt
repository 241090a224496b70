-- Rows whose data is written otherwise.
use Rattle.std.specs.Prelude.{◌≡◌, ℕ, false, List, [], ◌∷◌, ◌++◌, if◌then◌else◌}
use Rattle.std.specs.List.{flat_map, list_all}
use Rattle.dns_scan.specs.Token.{Token, unquoted}
use Rattle.dns_text.specs.Rows.{TokenRow, is_led}
use Rattle.dns_text.specs.Tokens.{Row, is_gap}
use Rattle.dns_name.specs.UnknownText.{unknown_text}
use Rattle.dns_entry_scanner.specs.NameInText.{SpellsUnder}
use Rattle.dns_zonefile.specs.Entry.{Context, Entry, IsEntry}
use Rattle.zone_general.specs.LongerRow.{IsGeneralRow, Stands, general_tokens}
use Rattle.zone_general.specs.Parts.{AreParts, Part, part_octets, row_octets, tokens_of}

-- the octets are a row, and nothing else
pub record AreRow (octets : List ℕ) (row : TokenRow) : Type 0 where
  pub is : Row false octets row.tokens []
  pub led : row.blank_led ≡ is_led octets

-- a space, if there is nothing between two tokens
abbrev pub spaced : List ℕ → List ℕ
spaced [] = 32 ∷ []
spaced (octet ∷ gap) = octet ∷ gap

-- what stays of what is between two tokens: nothing of white space alone, and all if a parenthesis, a line feed or a comment is in it
abbrev pub kept : List ℕ → List ℕ
kept gap = if list_all is_gap gap then [] else gap

-- what stays before tokens that are left out
abbrev pub gaps_of : List Part → List ℕ
gaps_of parts = flat_map (λ part. kept part.gap) parts

-- The octets of the data: the text in place of its first token, and nothing in place of the others. What is before the first token
-- stays, and before each other one what is not white space alone. Data without tokens follows a space.
abbrev pub data_octets : List Part → List ℕ → List ℕ
data_octets [] text = 32 ∷ text
data_octets (part ∷ others) text = spaced part.gap ++ (text ++ gaps_of others)

-- The octets of a row whose tokens are the front, the word of its type, and its data; and these with another word and another text
-- for the data.
pub record Rewrites (row : TokenRow) (front : List Token) (word : Token) (data' : List Token) (other text octets new : List ℕ) : Type 0 where
  pub front_parts : List Part
  pub type_part : Part
  pub data_parts : List Part
  pub last : List ℕ
  pub are : AreParts false (front_parts ++ type_part ∷ data_parts) last
  pub front_is : tokens_of front_parts ≡ front
  pub type_is : type_part.token ≡ word
  pub data_is : tokens_of data_parts ≡ data'
  pub led : row.blank_led ≡ is_led octets
  pub written : octets ≡ row_octets (front_parts ++ type_part ∷ data_parts) last
  pub rewritten : new ≡ flat_map part_octets front_parts ++ (type_part.gap ++ (other ++ (data_octets data_parts text ++ last)))

-- The octets of a row and those of its general row: the same if it is its own, and else, if it does not read as it stands, with a
-- known word and with the general form in place of its data.
pub data IsWrittenAs (row general : TokenRow) (octets : List ℕ) : List ℕ → Type 0 where
  same : general ≡ row → IsWrittenAs row general octets octets
  further : {front data' : List Token} {word : Token} {new : List ℕ} (other content : List ℕ) → (Stands row → ⊥)
      → row.tokens ≡ front ++ word ∷ data' → general.tokens ≡ front ++ unquoted other ∷ general_tokens content
      → Rewrites row front word data' other (unknown_text content) octets new → IsWrittenAs row general octets new

-- The row is this entry, since its general row is; and these are the octets of both.
pub record GoesGeneral (context : Context) (row : TokenRow) (octets new : List ℕ) (entry : Entry) (after : Context) : Type 0 where
  pub general : TokenRow
  pub is : IsGeneralRow (SpellsUnder context.origin) row general
  pub so : IsEntry context general entry after
  pub are : AreRow new general
  pub written : IsWrittenAs row general octets new
