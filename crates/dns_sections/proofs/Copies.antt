-- Records that are read and copied, one after another.
use Rattle.std.proofs.lemmas.Fn.{FoldsTo-push}
use Rattle.std.proofs.Common.{◌≡◌, ◌∙◌, ◌-◌, ℕ, List, [], ◌∷◌, ◌++◌, Some, Ok, Err, IfErr, refl, ap, subst, sym}
use Rattle.std.specs.List.{FoldsTo}
use Rattle.std.specs.Prelude.{Option, Result}
use Rattle.std.specs.Result.{IsErrAnd}
use Rattle.dns_octets.specs.declared.error.ParseError.{ParseError}
use Rattle.dns_header.specs.ParsedRecord.{Parsed}
use Rattle.dns_header.specs.Written.{Written}
use Rattle.dns_sections.specs.Copied.{Pushes, CopiesOne, CopiesFirst, CopiesSection}
use Rattle.dns_sections.specs.Cursor.{Cursor, IsSpent}
use Rattle.dns_sections.specs.Given.{GivesRecord, GoesOver}
use Rattle.dns_sections.specs.Sections.{SectionCursor, IsSectionOf}
use Rattle.dns_sections.specs.declared.error.CopyRecordsError.{CopyRecordsError}
use Rattle.dns_sections.specs.declared.error.CopyRecordsError.TheVariants as copy
use Rattle.dns_sections.specs.declared.error.PushError.{PushError}
use Rattle.dns_sections.specs.declared.section.Section.{Section}

-- one more is read after them
pub goes-behind : {old mid new : Cursor} {records : List Parsed} {parsed : Parsed} → GoesOver old records mid
    → GivesRecord mid (Some (Ok parsed)) new → GoesOver old (records ++ parsed ∷ []) new
goes-behind GoesOver.here gives = GoesOver.on gives GoesOver.here
goes-behind (GoesOver.on first others) gives = GoesOver.on first (goes-behind others gives)

-- no error is met on the way
none-met : {old new : Cursor} {records : List Parsed} → GoesOver old records new → (left : ℕ) → old.left ≡ Ok left
    → (still : ℕ) × (new.left ≡ Ok still)
none-met GoesOver.here left is = (left, is)
none-met (GoesOver.on gives others) left is = none-met others (gives.0 - 1) (ap (λ (c : Cursor). c.left) gives.3)

-- so a cursor that is spent has nothing left
all-gone : {old new : Cursor} {records : List Parsed} → GoesOver old records new → (left : ℕ) → old.left ≡ Ok left → IsSpent new
    → new.left ≡ Ok 0
all-gone {new = new} over left is spent =
    let still = none-met over left is in
    let zero : still.0 ≡ 0 = of_left new.left still.0 still.1 spent in still.1 ∙ ap Ok zero
  where
    of_left : (result : Result ℕ ParseError) (n : ℕ) → result ≡ Ok n → IsSpent (record { message = []; place = 0; left = result }) → n ≡ 0
    of_left result n same spent =
        subst (λ (r : Result ℕ ParseError). IsSpent (record { message = []; place = 0; left = r })) same spent

module _ {Op Item Target : Type 0} {asks : Op → Parsed → Option Item → Op → Type 0} {written : Item → Written} {pushes : Pushes Target} where
  -- nothing is copied yet
  pub none-copied : (from : Cursor) (state : Op × Target) → CopiesFirst asks written pushes from state state from
  none-copied from state = record { records = []; goes = GoesOver.here; copies = refl }

  -- one more is copied after those
  pub one-copied : {from behind new : Cursor} {old mid next : Op × Target} {parsed : Parsed} → CopiesFirst asks written pushes from old mid behind
      → GivesRecord behind (Some (Ok parsed)) new → CopiesOne asks written pushes mid parsed next
      → CopiesFirst asks written pushes from old next new
  one-copied {old = old} {mid = mid} {next = next} {parsed = parsed} first gives copies = record {
    records = first.records ++ parsed ∷ [];
    goes = goes-behind first.goes gives;
    copies = FoldsTo-push (CopiesOne asks written pushes) old first.records mid parsed next first.copies copies;
  }

  -- all records of a section that was reached are copied
  pub section-copied : {message : List ℕ} {section : Section} {at : SectionCursor} {old new : Op × Target} → IsSectionOf message section at
      → (behind : Cursor) × IsSpent behind × CopiesFirst asks written pushes at.cursor old new behind
      → CopiesSection asks written pushes message section old new
  section-copied {at = at} is (behind, spent, copies) = record {
    at = at;
    is_section = is;
    behind = behind;
    copies = copies;
    all = all-gone copies.goes _ (ap (λ (s : SectionCursor). s.cursor.left) is.is) spent;
  }

-- an error that is returned
pub handed-on : {A E : Type 0} (result : Result A E) (error : E) (Holds : E → Type 0) → IsErrAnd result (λ e. e ≡ error) → Holds error
    → IfErr result Holds
handed-on (Ok value) error Holds is holds = absurd is
handed-on (Err other) error Holds is holds = subst Holds (sym is) holds
