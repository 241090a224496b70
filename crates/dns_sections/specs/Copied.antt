-- Records that are copied from a message, section by section.
use Rattle.std.specs.Prelude.{◌≡◌, ℕ, List, Option, Some, None, Result, Ok, Err}
use Rattle.std.specs.List.{FoldsTo}
use Rattle.dns_header.specs.ParsedRecord.{Parsed}
use Rattle.dns_header.specs.Written.{Written}
use Rattle.dns_octets.specs.declared.error.ParseError.{ParseError}
use Rattle.dns_sections.specs.Cursor.{Cursor}
use Rattle.dns_sections.specs.Given.{GivesRecord, GoesOver}
use Rattle.dns_sections.specs.Sections.{SectionCursor, IsSectionOf, IsOutOfReach}
use Rattle.dns_sections.specs.declared.error.PushError.{PushError}
use Rattle.dns_sections.specs.declared.error.CopyRecordsError.{CopyRecordsError}
use Rattle.dns_sections.specs.declared.error.CopyRecordsError.TheVariants as copy
use Rattle.dns_sections.specs.declared.section.Section.{Section}
use Rattle.dns_sections.specs.declared.section.Section.TheVariants.{Answer, Authority, Additional}

-- What a target does with a record: the target before, the record, the result, the target after.
abbrev pub Pushes : Type 0 → Type 1
Pushes Target = Target → Written → Result (Unit {0}) PushError → Target → Type 0

-- A call of `asks` returns what is pushed for a record of the source, if anything, and `written` gives its fields. The
-- state is that of the closure, and the target.
module _ {Op Item Target : Type 0} (asks : Op → Parsed → Option Item → Op → Type 0) (written : Item → Written) (pushes : Pushes Target) where
  -- A record is copied: what is asked for is pushed.
  pub data CopiesOne : Op × Target → Parsed → Op × Target → Type 0 where
    left : {op next : Op} {target : Target} {parsed : Parsed} → asks op parsed None next → CopiesOne (op, target) parsed (next, target)
    kept : {op next : Op} {target grown : Target} {parsed : Parsed} {item : Item} → asks op parsed (Some item) next
        → pushes target (written item) (Ok tt) grown → CopiesOne (op, target) parsed (next, grown)

  -- The first records of a cursor are copied, in order, and the cursor is then after them.
  pub record CopiesFirst (from : Cursor) (old new : Op × Target) (behind : Cursor) : Type 0 where
    pub records : List Parsed
    pub goes : GoesOver from records behind
    pub copies : FoldsTo CopiesOne old records new

  -- The record after the copied ones stops it, with this error: it does not parse, or the target does not take what is
  -- pushed for it.
  pub data StopsAt (from : Cursor) (old : Op × Target) : CopyRecordsError → Type 0 where
    unread : {mid : Op × Target} {behind new : Cursor} {error : ParseError} → CopiesFirst from old mid behind
        → GivesRecord behind (Some (Err error)) new → StopsAt from old (copy.Parse error)
    refused : {op next : Op} {target after : Target} {behind new : Cursor} {parsed : Parsed} {item : Item} {error : PushError}
        → CopiesFirst from old (op, target) behind → GivesRecord behind (Some (Ok parsed)) new → asks op parsed (Some item) next
        → pushes target (written item) (Err error) after → StopsAt from old (copy.Push error)

  -- All records of a section are copied, in order.
  pub record CopiesSection (message : List ℕ) (section : Section) (old new : Op × Target) : Type 0 where
    pub at : SectionCursor
    pub is_section : IsSectionOf message section at
    pub behind : Cursor
    pub copies : CopiesFirst at.cursor old new behind
    pub all : behind.left ≡ Ok 0

  -- The section is not copied whole, for this error: it cannot be reached, or one of its records stops it.
  pub data StopsIn (message : List ℕ) (section : Section) (old : Op × Target) : CopyRecordsError → Type 0 where
    out_of_reach : {error : ParseError} → IsOutOfReach message section error → StopsIn message section old (copy.Parse error)
    stopped : {at : SectionCursor} {error : CopyRecordsError} → IsSectionOf message section at → StopsAt at.cursor old error
        → StopsIn message section old error

-- The three sections are not all copied, for this error: it is that of the first section that is not copied whole.
-- Between them `leads` and `leads_on` relate a target and that of the next section.
pub data Stops {Op Item One Two Three : Type 0} (asks : Op → Parsed → Option Item → Op → Type 0) (written : Item → Written)
    (pushes : Pushes One) (leads : One → Two → Type 0) (pushes_second : Pushes Two) (leads_on : Two → Three → Type 0)
    (pushes_third : Pushes Three) (message : List ℕ) (old : Op × One) (error : CopyRecordsError) : Type 0 where
  in_answer : StopsIn asks written pushes message Answer old error
      → Stops asks written pushes leads pushes_second leads_on pushes_third message old error
  in_authority : {op : Op} {one : One} {two : Two} → CopiesSection asks written pushes message Answer old (op, one) → leads one two
      → StopsIn asks written pushes_second message Authority (op, two) error
      → Stops asks written pushes leads pushes_second leads_on pushes_third message old error
  in_additional : {op mid : Op} {one : One} {two grown : Two} {three : Three} → CopiesSection asks written pushes message Answer old (op, one)
      → leads one two → CopiesSection asks written pushes_second message Authority (op, two) (mid, grown) → leads_on grown three
      → StopsIn asks written pushes_third message Additional (mid, three) error
      → Stops asks written pushes leads pushes_second leads_on pushes_third message old error
