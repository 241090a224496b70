-- Texts with each row in general form that has one, and the other rows as they are.
use Rattle.std.specs.Prelude.{◌≡◌, ◌≢◌, ℕ, true, false, List, [], ◌++◌}
use Rattle.dns_text.specs.Rows.{TokenRow}
use Rattle.dns_text.specs.Tokens.{is_end}
use Rattle.dns_entry_scanner.specs.NameInText.{SpellsUnder}
use Rattle.dns_entry_scanner.specs.RowFound.{NoRow}
use Rattle.dns_zonefile.specs.Entry.{Context, Entry}
use Rattle.dns_entry_scanner.specs.Lines.{behind_line}
use Rattle.zone_general.specs.LongerEntries.{IsLongerEntry}
use Rattle.zone_general.specs.LongerRow.{IsGeneralRow}
use Rattle.zone_general.specs.Rewritten.{AreRow, GoesGeneral, IsWrittenAs}

-- the row is no entry
abbrev pub IsNoEntry : Context → TokenRow → Type 0
IsNoEntry context row = (entry : Entry) (next : Context) → IsLongerEntry context row entry next → ⊥

-- the row has no general row: its data is that of no type that it states
abbrev pub HasNoGeneralRow : Context → TokenRow → Type 0
HasNoGeneralRow context row = (general : TokenRow) → IsGeneralRow (SpellsUnder context.origin) row general → ⊥

-- The row has a general row, and these are the octets of both.
pub record HasGeneralRow (context : Context) (row : TokenRow) (octets new : List ℕ) : Type 0 where
  pub general : TokenRow
  pub is : IsGeneralRow (SpellsUnder context.origin) row general
  pub are : AreRow new general
  pub written : IsWrittenAs row general octets new

-- The octets of a row, and those of its general row if it has one, else the same. A row that is no entry sets nothing for the rows
-- after it.
pub data GoesReadable (context : Context) (row : TokenRow) (octets : List ℕ) : List ℕ → Context → Type 0 where
  read : {new : List ℕ} {entry : Entry} {after : Context} → GoesGeneral context row octets new entry after
      → GoesReadable context row octets new after
  refused : {new : List ℕ} → IsNoEntry context row → HasGeneralRow context row octets new → GoesReadable context row octets new context
  unread : HasNoGeneralRow context row → GoesReadable context row octets octets context

-- The text goes to the other, row by row. Rows without tokens stay, and so does the end of the text behind its last row. Where the
-- text is cut into no row, its first line stays, and the rows go on behind it.
pub data IsReadableOf : Context → List ℕ → List ℕ → Type 0 where
  ended : {context : Context} {rest : List ℕ} → is_end rest ≡ true → IsReadableOf context rest rest
  bare : {context : Context} {text new : List ℕ} {row : TokenRow} (octets : List ℕ) → AreRow octets row → row.tokens ≡ []
      → IsReadableOf context text new → IsReadableOf context (octets ++ text) (octets ++ new)
  more : {context next : Context} {text new : List ℕ} {row : TokenRow} (octets others : List ℕ) → AreRow octets row → row.tokens ≢ []
      → GoesReadable context row octets others next → IsReadableOf next text new → IsReadableOf context (octets ++ text) (others ++ new)
  broken : {context : Context} {text new : List ℕ} (line : List ℕ) → is_end (line ++ text) ≡ false → NoRow (line ++ text)
      → text ≡ behind_line (line ++ text) → IsReadableOf context text new → IsReadableOf context (line ++ text) (line ++ new)

-- The row is appended to the old octets: as it is if it has no tokens, and else as it goes.
pub data AppendsReadable (context : Context) (row : TokenRow) (octets : List ℕ) (after : Context) (old new : List ℕ) : Type 0 where
  bare : row.tokens ≡ [] → after ≡ context → new ≡ old ++ octets → AppendsReadable context row octets after old new
  more : (others : List ℕ) → row.tokens ≢ [] → GoesReadable context row octets others after → new ≡ old ++ others
      → AppendsReadable context row octets after old new

-- The same of a row that is no entry.
pub record AppendsRefused (context : Context) (row : TokenRow) (octets old new : List ℕ) : Type 0 where
  pub others : List ℕ
  pub goes : GoesReadable context row octets others context
  pub appended : new ≡ old ++ others
