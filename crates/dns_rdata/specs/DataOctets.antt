-- Data as a record has it: the number of a type, and octets in which every name is written out (RFC 1035 3.2.1).
use Rattle.std.specs.Prelude.{◌≡◌, ℕ, List}
use Rattle.dns_text.specs.Document.{Piece}
use Rattle.dns_fields.specs.Fields.{Field, octets, IsRow}
use Rattle.dns_rdata.specs.Data.{Data, typed, unknown_data, document_of}
use Rattle.dns_rdata.specs.DataTokens.{HasNoEmptyTag}

-- the octets of data; unknown data is its octets (RFC 3597 4)
abbrev pub data_octets : Data → List ℕ
data_octets (typed number row) = octets row
data_octets (unknown_data unknown) = unknown.octets

-- Text can spell the data: the row that the octets are has no empty tag. Text can spell all unknown data (RFC 3597 5).
abbrev pub IsSpellable : ℕ → List ℕ → Type 0
IsSpellable rtype data' = (row : List Field) → IsRow rtype row → data' ≡ octets row → HasNoEmptyTag (typed rtype row)

-- data of a type that has fields, and its document
pub record IsDataDocument (rtype : ℕ) (data' : List ℕ) (document : List Piece) : Type 0 where
  pub row : List Field
  pub is_row : IsRow rtype row
  pub octets_are : data' ≡ octets row
  pub is : document ≡ document_of (typed rtype row)
