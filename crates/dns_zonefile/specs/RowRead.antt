-- The result of reading one row. Only contracts inside the crate name it.
use Rattle.std.specs.Prelude.{◌≡◌, ◌≢◌, ◌<◌, true, ℕ, List, [], ◌∷◌, Option, Some, None, Result, Ok, Err}
use Rattle.dns_text.specs.Tokens.{is_end}
use Rattle.dns_entry_scanner.specs.declared.entry_error.EntryError.{EntryError}
use Rattle.dns_zonefile.specs.Entry.{Entry}
use Rattle.dns_zonefile.specs.Entry.Entry.{Directive}
use Rattle.dns_zonefile.specs.Reader.{AreDirectives, Gives, GoesOver, Reader, left_of}
use Rattle.dns_zonefile.specs.declared.zonefile.read.RowRead.{RowRead}
use Rattle.dns_zonefile.specs.declared.zonefile.read.RowRead.TheVariants.{Passed, Found, Ended}

-- the value returned for an entry, by the octets before it and after it
abbrev pub Form : Type 0 → Type 1
Form Given = List ℕ → Entry → Given → List ℕ → Type 0

-- for a directive nothing is returned and no octets change; another entry is returned
abbrev pub IsGiven : {Given : Type 0} → Form Given → List ℕ → Entry → Option Given → List ℕ → Type 0
IsGiven gives old entry None new = (entry ≡ Directive) × (new ≡ old)
IsGiven gives old entry (Some given) new = (entry ≢ Directive) × gives old entry given new

-- nothing, if it has no tokens or is a directive; a record or an include; or the end, if there is no row
abbrev pub ReadsRow : {Given : Type 0} → Form Given → Reader → List ℕ → RowRead Given → Reader → List ℕ → Type 0
ReadsRow gives old before Passed new after =
    (entries : List Entry) × AreDirectives entries × GoesOver old entries new × (old.place < new.place) × (after ≡ before)
ReadsRow gives old before (Found given) new after =
    (entry : Entry) × (entry ≢ Directive) × GoesOver old (entry ∷ []) new × gives before entry given after
ReadsRow gives old before Ended new after = (is_end (left_of old) ≡ true) × (new ≡ old) × (after ≡ before)

-- the result of a reader, in a form
pub data IsInForm {Given : Type 0} (gives : Form Given) (old : List ℕ) : Result (Option Entry) EntryError → Result (Option Given) EntryError
    → List ℕ → Type 0 where
  found : {entry : Entry} {given : Given} {new : List ℕ} → gives old entry given new
      → IsInForm gives old (Ok (Some entry)) (Ok (Some given)) new
  ended : IsInForm gives old (Ok None) (Ok None) old
  refused : {error : EntryError} → IsInForm gives old (Err error) (Err error) old

-- it is the result of a reader, in this form
pub record GivesInForm {Given : Type 0} (gives : Form Given) (old : Reader) (before : List ℕ) (result : Result (Option Given) EntryError)
    (new : Reader) (after : List ℕ) : Type 0 where
  pub given : Result (Option Entry) EntryError
  pub is : Gives old given new
  pub so : IsInForm gives before given result after
