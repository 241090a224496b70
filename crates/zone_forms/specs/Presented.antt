-- Texts with data of further types in presentation form.
use Rattle.std.specs.Prelude.{◌≡◌, ◌⊎◌, ℕ, List}
use Rattle.dns_scan.specs.Token.{Token}
use Rattle.dns_text.specs.Document.{Layout, document_text}
use Rattle.dns_text.specs.Document.Layout.{Simple}
use Rattle.dns_text.specs.Rows.{TokenRow}
use Rattle.dns_field_texts.specs.TypeWords.{type_word_written}
use Rattle.dns_fields_more.specs.Forms.{IsFurtherData}
use Rattle.dns_fields_more.specs.Printed.{HasNoEmptyRest}
use Rattle.dns_rdata_more.specs.FurtherData.{row_read}
use Rattle.dns_rdata_more.specs.Shown.{further_document}
use Rattle.dns_entry_scanner.specs.NameInText.{SpellsUnder}
use Rattle.dns_zonefile.specs.Entries.{HasEntries}
use Rattle.dns_zonefile.specs.Entry.{Context, Entry}
use Rattle.dns_zonefile.specs.Statement.{Names}
use Rattle.zone_general.specs.LongerEntries.{HasLongerEntries, IsLongerEntry}
use Rattle.zone_general.specs.LongerRow.{HasType, IsMarked, ScansLonger}
use Rattle.zone_general.specs.Rewritten.{AreRow, GoesGeneral, Rewrites}
use Rattle.zone_forms.specs.Going.{GoesTo}

-- The octets are data of the further type, and its fields have a text: none that is written in base 16 or 64, as a key, a digest or a
-- signature, is empty.
pub record HasFieldsText (rtype : ℕ) (content : List ℕ) : Type 0 where
  pub are : IsFurtherData rtype content
  pub some : HasNoEmptyRest rtype (row_read rtype content)

-- The row has data in general form that is data of its type, a further one, whose fields have a text.
pub record HasPresentation (names : Names) (row : TokenRow) : Type 0 where
  pub front : List Token
  pub word : Token
  pub rtype : ℕ
  pub data' : List Token
  pub content : List ℕ
  pub has : HasType row front word rtype data'
  pub marked : IsMarked data'
  pub scans : ScansLonger names rtype data' content
  pub text : HasFieldsText rtype content

-- The row is this entry; and its octets, and what is printed for it: if its data is in general form and is data of a further type whose
-- fields have a text, its mnemonic and the fields, in this layout or on one line; else the same. What is printed is a row of this entry
-- too.
pub data GoesPresented (layout : Layout) (context : Context) (row : TokenRow) (octets : List ℕ) : List ℕ → Entry → Context → Type 0 where
  same : {entry : Entry} {after : Context} → IsLongerEntry context row entry after → (HasPresentation (SpellsUnder context.origin) row → ⊥)
      → GoesPresented layout context row octets octets entry after
  presented : {front data' : List Token} {word : Token} {rtype : ℕ} {content new : List ℕ} {printed : TokenRow} {entry : Entry}
      {after : Context} (shown : Layout) → IsLongerEntry context row entry after → (shown ≡ layout) ⊎ (shown ≡ Simple)
      → HasType row front word rtype data' → IsMarked data' → ScansLonger (SpellsUnder context.origin) rtype data' content
      → IsFurtherData rtype content
      → Rewrites row front word data' (type_word_written rtype) (document_text shown (further_document rtype content)) octets new
      → AreRow new printed → IsLongerEntry context printed entry after → GoesPresented layout context row octets new entry after

-- The new text is the text with further data in general form: by the longer table the text has the entries that the new text has.
pub record IsGeneralOf (start : Context) (text new : List ℕ) : Type 0 where
  pub entries : List Entry
  pub after : Context
  pub goes : GoesTo GoesGeneral start text new entries after
  pub read : HasLongerEntries start text entries
  pub written : HasEntries start new entries

-- The new text is the text with further data in presentation form: both have the same entries by the longer table.
pub record IsPresentedOf (layout : Layout) (start : Context) (text new : List ℕ) : Type 0 where
  pub entries : List Entry
  pub after : Context
  pub goes : GoesTo (GoesPresented layout) start text new entries after
  pub read : HasLongerEntries start text entries
  pub written : HasLongerEntries start new entries
