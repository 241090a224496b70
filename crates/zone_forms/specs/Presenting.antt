-- Parts of printing a row with its data in presentation form. Only contracts inside the crate name them.
use Rattle.std.specs.Prelude.{◌≡◌, ◌⊎◌, ◌+◌, ℕ, List, drop, length, take}
use Rattle.dns_scan.specs.Token.{Token}
use Rattle.dns_text.specs.Document.{Layout, document_text}
use Rattle.dns_text.specs.Document.Layout.{Simple}
use Rattle.dns_text.specs.Rows.{TokenRow}
use Rattle.dns_field_texts.specs.TypeWords.{type_word_written}
use Rattle.dns_fields_more.specs.Forms.{IsFurtherData}
use Rattle.dns_rdata_more.specs.Shown.{further_document}
use Rattle.dns_zonefile.specs.Statement.{Names}
use Rattle.zone_general.specs.LongerRow.{HasType, IsMarked, ScansLonger}
use Rattle.zone_general.specs.Rewritten.{AreRow}
use Rattle.zone_general.specs.Seen.{HasTypeAt, RewritesAt, row_in, tokens_in}
use Rattle.zone_general.specs.declared.found_row.FoundRow.{FoundRow}
use Rattle.zone_general.specs.declared.stated_type.RowType.{RowType}

-- the other row has the same tokens before its type, the same type, and data that is not in general form
pub record HasSameFront (row other : TokenRow) (kind : RowType) : Type 0 where
  pub front : List Token
  pub word : Token
  pub data' : List Token
  pub has : HasType other front word kind.rtype data'
  pub place : kind.index ≡ length front
  pub same : front ≡ take kind.index row.tokens
  pub unmarked : IsMarked data' → ⊥

-- The octets are a row that begins with white space if this one does, and has the same tokens before its type, the same type, and
-- these octets of data, not in general form.
pub record ReadsBack (names : Names) (row : TokenRow) (kind : RowType) (content new : List ℕ) : Type 0 where
  pub printed : TokenRow
  pub are : AreRow new printed
  pub led : printed.blank_led ≡ row.blank_led
  pub front : List Token
  pub word : Token
  pub data' : List Token
  pub has : HasType printed front word kind.rtype data'
  pub same : front ≡ take kind.index row.tokens
  pub unmarked : IsMarked data' → ⊥
  pub scans : ScansLonger names kind.rtype data' content

-- the octets are the row's with its mnemonic and these octets of data as fields, and read as the row
pub record PrintsAs (names : Names) (row : FoundRow) (kind : RowType) (layout : Layout) (content new : List ℕ) : Type 0 where
  pub are : IsFurtherData kind.rtype content
  pub so : RewritesAt row kind.index (type_word_written kind.rtype) (document_text layout (further_document kind.rtype content)) new
  pub back : ReadsBack names (row_in row) kind content new

-- The row has data in general form, and the octets are the row's with this data as fields, in the layout or on one line.
pub record PrintsRow (names : Names) (row : FoundRow) (layout : Layout) (new : List ℕ) : Type 0 where
  pub kind : RowType
  pub has : HasTypeAt (row_in row) kind
  pub marked : IsMarked (drop (kind.index + 1) (tokens_in row))
  pub content : List ℕ
  pub scans : ScansLonger names kind.rtype (drop (kind.index + 1) (tokens_in row)) content
  pub shown : Layout
  pub layouts : (shown ≡ layout) ⊎ (shown ≡ Simple)
  pub prints : PrintsAs names row kind shown content new
