-- Where a text fails that is read by the table that has the further types too.
use Rattle.std.specs.Prelude.{◌≡◌, ◌≢◌, ◌++◌, ◌∷◌, [], ℕ, List}
use Rattle.dns_text.specs.Rows.{BeginsWithRows, BreaksAfter, TokenRow}
use Rattle.dns_zonefile.specs.Entry.{Context, Entry}
use Rattle.dns_entry_scanner.specs.Lines.{line_behind}
use Rattle.zone_general.specs.LongerEntries.{AreLongerEntries, IsLongerEntry}

-- After some entries the text fails, in this line: what follows is no row, or a row with tokens that is no entry.
pub data FailsInLine (start : Context) (text : List ℕ) : ℕ → Type 0 where
  broken : {rest : List ℕ} {rows : List TokenRow} {entries : List Entry} {after : Context} (front : List ℕ) → text ≡ front ++ rest
      → BeginsWithRows text rows rest → BreaksAfter text rows → AreLongerEntries start rows entries after
      → FailsInLine start text (line_behind front)
  no_entry : {rest behind : List ℕ} {rows : List TokenRow} {row : TokenRow} {entries : List Entry} {after : Context}
      (front : List ℕ) → text ≡ front ++ rest → BeginsWithRows text rows rest → BeginsWithRows rest (row ∷ []) behind
      → AreLongerEntries start rows entries after → row.tokens ≢ []
      → ((entry : Entry) (next : Context) → IsLongerEntry after row entry next → ⊥) → FailsInLine start text (line_behind front)
