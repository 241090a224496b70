-- The views of rows and readers. Only contracts inside the crate and `zone_forms` name them.
use Rattle.std.specs.Prelude.{false, ◌≡◌, ◌+◌, ◌≤◌, ℕ, List, ◌∷◌, ◌++◌, length, map, drop, is_some}
use Rattle.std.specs.List.{flat_map}
use Rattle.dns_label.specs.Octets.{AreOctets}
use Rattle.dns_name.specs.UnknownText.{unknown_text}
use Rattle.dns_values.specs.Mnemonic.{type_read}
use Rattle.dns_scan.specs.Token.{Token}
use Rattle.dns_text.specs.Rows.{TokenRow}
use Rattle.dns_entry_scanner.specs.RowFound.{IsRowAt}
use Rattle.dns_entry_scanner.specs.TokenEnd.{between}
use Rattle.dns_entry_scanner.specs.TokenSpan.{token_in}
use Rattle.dns_zonefile.specs.Entry.{Context}
use Rattle.dns_zonefile.specs.Seen.{row_of}
use Rattle.dns_zonefile.specs.Statement.{Names}
use Rattle.zone_general.specs.LongerRow.{HasType, ScansLonger, known_word}
use Rattle.zone_general.specs.Parts.{AreParts, Part, part_octets, row_octets, tokens_of}
use Rattle.zone_general.specs.Rewritten.{data_octets}
use Rattle.zone_general.specs.declared.found_row.FoundRow.{FoundRow}
use Rattle.zone_general.specs.declared.longer_reader.LongerReader.{LongerReader}
use Rattle.zone_general.specs.declared.stated_type.RowType.{RowType}

-- the tokens of a row that was found
abbrev pub tokens_in : FoundRow → List Token
tokens_in row = map (λ span. token_in row.text.now span) row.spans.now

abbrev pub row_in : FoundRow → TokenRow
row_in row = row_of row.blank_led (tokens_in row)

-- it is what is at its place
abbrev pub IsFound : FoundRow → Type 0
IsFound row = IsRowAt row.text.now row.place row.spans.now row.next row.blank_led

-- its octets
abbrev pub octets_in : FoundRow → List ℕ
octets_in row = between row.place row.next row.text.now

-- the type that the row has, by the place of its word
pub record HasTypeAt (row : TokenRow) (kind : RowType) : Type 0 where
  pub front : List Token
  pub word : Token
  pub data' : List Token
  pub has : HasType row front word kind.rtype data'
  pub place : kind.index ≡ length front
  pub known : kind.known ≡ is_some (type_read word.text)

-- the row has no type
abbrev pub HasNoType : TokenRow → Type 0
HasNoType row = (front : List Token) (word : Token) (rtype : ℕ) (data' : List Token) → HasType row front word rtype data' → ⊥

-- the octets of the row that was found, with the token at the place written otherwise and another text for those behind it
pub record RewritesAt (row : FoundRow) (place : ℕ) (word text new : List ℕ) : Type 0 where
  pub front_parts : List Part
  pub type_part : Part
  pub data_parts : List Part
  pub last : List ℕ
  pub are : AreParts false (front_parts ++ type_part ∷ data_parts) last
  pub place_is : length front_parts ≡ place
  pub tokens : tokens_of (front_parts ++ type_part ∷ data_parts) ≡ tokens_in row
  pub written : octets_in row ≡ row_octets (front_parts ++ type_part ∷ data_parts) last
  pub rewritten : new ≡ flat_map part_octets front_parts ++ (type_part.gap ++ (word ++ (data_octets data_parts text ++ last)))

-- the octets are the row's with a known word for its type and its data in general form
pub record WritesGeneral (names : Names) (row : FoundRow) (kind : RowType) (new : List ℕ) : Type 0 where
  pub content : List ℕ
  pub scans : ScansLonger names kind.rtype (drop (kind.index + 1) (tokens_in row)) content
  pub octets : AreOctets content
  pub short : length content ≤ 65535
  pub word : List ℕ
  pub word_is : (front : List Token) (stated : Token) (rtype : ℕ) (data' : List Token) → HasType (row_in row) front stated rtype data'
      → word ≡ known_word stated rtype
  pub so : RewritesAt row kind.index word (unknown_text content) new

-- what the rows so far have set
abbrev pub context_in : LongerReader → Context
context_in reader = reader.entries
