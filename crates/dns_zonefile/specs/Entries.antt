-- The entries of a zone file (RFC 1035 5.1): its rows with tokens, each read in the context that those before it leave.
use Rattle.std.specs.Prelude.{◌≢◌, ℕ, suc, Bool, List, [], ◌∷◌, ◌++◌, length}
use Rattle.dns_text.specs.Rows.{BeginsWithRows, BreaksAfter, IsText, TokenRow}
use Rattle.dns_zonefile.specs.Entry.{Context, Entry, IsEntry}

-- The rows are these entries. A row without tokens is none.
pub data AreEntries : Context → List TokenRow → List Entry → Context → Type 0 where
  none : {context : Context} → AreEntries context [] [] context
  bare : {context after : Context} {blank_led : Bool} {rows : List TokenRow} {entries : List Entry} → AreEntries context rows entries after
      → AreEntries context (record { blank_led = blank_led; tokens = [] } ∷ rows) entries after
  entry : {context next after : Context} {row : TokenRow} {rows : List TokenRow} {entry : Entry} {entries : List Entry}
      → IsEntry context row entry next → AreEntries next rows entries after → AreEntries context (row ∷ rows) (entry ∷ entries) after

-- the text is these entries, from its first to its end
pub record HasEntries (start : Context) (text : List ℕ) (entries : List Entry) : Type 0 where
  pub rows : List TokenRow
  pub is_text : IsText text rows
  pub after : Context
  pub are : AreEntries start rows entries after

-- After these entries the text fails: what follows is no row, or a row with tokens that says nothing.
pub data IsRefusedAfter (start : Context) (text : List ℕ) (entries : List Entry) : Type 0 where
  broken : {rows : List TokenRow} {after : Context} → BreaksAfter text rows → AreEntries start rows entries after
      → IsRefusedAfter start text entries
  no_entry : {rows : List TokenRow} {row : TokenRow} {rest : List ℕ} {after : Context} → BeginsWithRows text (rows ++ row ∷ []) rest
      → AreEntries start rows entries after → row.tokens ≢ []
      → ((entry : Entry) (next : Context) → IsEntry after row entry next → ⊥) → IsRefusedAfter start text entries

-- The number of the entry that fails. Records, includes and directives count.
abbrev pub refused_number : List Entry → ℕ
refused_number entries = suc (length entries)
