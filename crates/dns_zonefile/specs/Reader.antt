-- Readers of zone files, and their results (RFC 1035 5.1).
use Rattle.std.specs.Prelude.{◌≡◌, ◌≢◌, ◌+◌, ℕ, true, false, List, [], ◌∷◌, ◌++◌, Option, Some, None, Result, Ok, Err, drop, length}
use Rattle.std.specs.List.{AllByRecursion}
use Rattle.dns_text.specs.Rows.{BeginsWithRows, TokenRow}
use Rattle.dns_text.specs.Tokens.{is_end}
use Rattle.dns_entry_scanner.specs.RowFound.{NoRow}
use Rattle.dns_entry_scanner.specs.EntryError.{is_memory}
use Rattle.dns_entry_scanner.specs.declared.entry_error.EntryError.{EntryError}
use Rattle.dns_zonefile.specs.Entries.{AreEntries}
use Rattle.dns_zonefile.specs.Entry.{Context, Entry, IsEntry, at_start}
use Rattle.dns_zonefile.specs.Entry.Entry.{Directive, Include, Resource}

-- The text of a reader, the place of the first row that is not yet read, what the rows before it have set, and how many
-- entries they are.
pub record Reader : Type 0 where
  pub text : List ℕ
  pub place : ℕ
  pub context : Context
  pub count : ℕ

-- what is not yet read
abbrev pub left_of : Reader → List ℕ
left_of reader = drop reader.place reader.text

-- The reader goes over rows, which are these entries.
pub record GoesOver (old : Reader) (entries : List Entry) (new : Reader) : Type 0 where
  pub rows : List TokenRow
  pub begins : BeginsWithRows (left_of old) rows (left_of new)
  pub are : AreEntries old.context rows entries new.context
  pub count : new.count ≡ old.count + length entries
  pub text : new.text ≡ old.text

-- The text fails at the reader's place: there is no row, though the text goes on; or there is a row with tokens that is
-- no entry.
pub data IsRefusedAt (reader : Reader) : Type 0 where
  broken : is_end (left_of reader) ≡ false → NoRow (left_of reader) → IsRefusedAt reader
  no_entry : {row : TokenRow} {rest : List ℕ} → BeginsWithRows (left_of reader) (row ∷ []) rest → row.tokens ≢ []
      → ((entry : Entry) (after : Context) → IsEntry reader.context row entry after → ⊥) → IsRefusedAt reader

-- directives, which only change the rows after them
abbrev pub AreDirectives : List Entry → Type 0
AreDirectives entries = AllByRecursion (λ entry. entry ≡ Directive) entries

-- The result of a reader: it goes over directives to the next record or include, to the end of the text, or to where
-- the text fails. If out of memory, it says nothing of the row.
pub data Gives (old : Reader) : Result (Option Entry) EntryError → Reader → Type 0 where
  given : (directives : List Entry) {entry : Entry} {new : Reader} → AreDirectives directives → entry ≢ Directive
      → GoesOver old (directives ++ entry ∷ []) new → Gives old (Ok (Some entry)) new
  ended : {directives : List Entry} {new : Reader} → AreDirectives directives → GoesOver old directives new
      → is_end (left_of new) ≡ true → Gives old (Ok None) new
  refused : {directives : List Entry} {new : Reader} {error : EntryError} → AreDirectives directives → GoesOver old directives new
      → IsRefusedAt new → is_memory error ≡ false → Gives old (Err error) new
  out_of_memory : {directives : List Entry} {new : Reader} {error : EntryError} → AreDirectives directives → GoesOver old directives new
      → is_memory error ≡ true → Gives old (Err error) new

-- a reader at the start of a text, without an origin and a class
abbrev pub start_of_text : List ℕ → Reader
start_of_text text = record { text = text; place = 0; context = at_start None None; count = 0 }

-- A reader that is called repeatedly returns these entries, and is then the other reader.
pub data GivesEach : Reader → List Entry → Reader → Type 0 where
  none : {reader : Reader} → GivesEach reader [] reader
  more : {old mid new : Reader} {entry : Entry} {entries : List Entry} → Gives old (Ok (Some entry)) mid → GivesEach mid entries new
      → GivesEach old (entry ∷ entries) new

-- the records and includes among entries
abbrev pub without_directives : List Entry → List Entry
without_directives [] = []
without_directives (Resource rr ∷ entries) = Resource rr ∷ without_directives entries
without_directives (Include path origin ∷ entries) = Include path origin ∷ without_directives entries
without_directives (Directive ∷ entries) = without_directives entries
