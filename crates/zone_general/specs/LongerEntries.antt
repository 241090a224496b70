-- The entries of a zone file by the table that has the further types too.
use Rattle.std.specs.Prelude.{ℕ, Bool, List, [], ◌∷◌}
use Rattle.dns_text.specs.Rows.{IsText, TokenRow}
use Rattle.dns_entry_scanner.specs.NameInText.{SpellsUnder}
use Rattle.dns_zonefile.specs.Entry.{Context, Entry, IsEntry}
use Rattle.zone_general.specs.LongerRow.{IsGeneralRow}

-- a row with tokens is this entry, since its general row is
pub record IsLongerEntry (context : Context) (row : TokenRow) (entry : Entry) (after : Context) : Type 0 where
  pub general : TokenRow
  pub is : IsGeneralRow (SpellsUnder context.origin) row general
  pub so : IsEntry context general entry after

-- the rows are these entries; a row without tokens is none
pub data AreLongerEntries : Context → List TokenRow → List Entry → Context → Type 0 where
  none : {context : Context} → AreLongerEntries context [] [] context
  bare : {context after : Context} {blank_led : Bool} {rows : List TokenRow} {entries : List Entry}
      → AreLongerEntries context rows entries after
      → AreLongerEntries context (record { blank_led = blank_led; tokens = [] } ∷ rows) entries after
  entry : {context next after : Context} {row : TokenRow} {rows : List TokenRow} {entry : Entry} {entries : List Entry}
      → IsLongerEntry context row entry next → AreLongerEntries next rows entries after
      → AreLongerEntries context (row ∷ rows) (entry ∷ entries) after

-- the text is these entries, from its first to its end
pub record HasLongerEntries (start : Context) (text : List ℕ) (entries : List Entry) : Type 0 where
  pub rows : List TokenRow
  pub is_text : IsText text rows
  pub after : Context
  pub are : AreLongerEntries start rows entries after
