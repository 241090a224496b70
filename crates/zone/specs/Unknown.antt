-- Data of a type with fields, written in the form of unknown data (RFC 3597 5).
use Rattle.std.specs.Prelude.{◌≡◌, ℕ, List, [], ◌∷◌, ◌++◌}
use Rattle.dns_scan.specs.Token.{Token, marker}
use Rattle.dns_scan.specs.UnknownData.{IsUnknownData}
use Rattle.dns_text.specs.Rows.{BeginsWithRows, TokenRow}
use Rattle.dns_rdata.specs.DataOctets.{data_octets}
use Rattle.dns_entry_scanner.specs.NameInText.{SpellsUnder}
use Rattle.dns_zonefile.specs.Entries.{AreEntries}
use Rattle.dns_zonefile.specs.Entry.{Context, Entry}
use Rattle.dns_zonefile.specs.Statement.{Names, Stated, StatesRecord}

-- The row states a record. In place of its data's tokens, the other one has the marker, and the number and the words of
-- the data's octets, each name uncompressed.
pub record IsUnknownForm (names : Names) (row other : TokenRow) : Type 0 where
  pub stated : Stated
  pub says : StatesRecord names row stated
  pub head : List Token
  pub row_is : row.tokens ≡ head ++ says.data_tokens
  pub words : List Token
  pub words_are : IsUnknownData words (data_octets stated.rdata)
  pub other_is : other ≡ record { blank_led = row.blank_led; tokens = head ++ marker ∷ words }

-- The texts are the same but for one row, which the other has in the form of unknown data.
pub record HasUnknownRow (start : Context) (text other : List ℕ) : Type 0 where
  pub rows : List TokenRow
  pub row : TokenRow
  pub other_row : TokenRow
  pub rest : List ℕ
  pub text_begins : BeginsWithRows text (rows ++ row ∷ []) rest
  pub other_begins : BeginsWithRows other (rows ++ other_row ∷ []) rest
  pub entries : List Entry
  pub context : Context
  pub are : AreEntries start rows entries context
  pub form : IsUnknownForm (SpellsUnder context.origin) row other_row
