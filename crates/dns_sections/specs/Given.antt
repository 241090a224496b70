-- What the cursors over a message return (RFC 1035 4.1).
use Rattle.std.specs.Prelude.{◌≡◌, ⊤, ℕ, Bool, true, List, [], ◌∷◌, Option, Some, None, Result, Ok, Err}
use Rattle.std.specs.List.{AllByRecursion}
use Rattle.dns_octets.specs.declared.error.ParseError.{ParseError}
use Rattle.dns_header.specs.Head.{NoWhole, WholeIsCut}
use Rattle.dns_header.specs.Question.{Question, ReadsQuestion}
use Rattle.dns_header.specs.ParsedRecord.{Parsed, HoldsRecord, IsRecordOf, HasNoData}
use Rattle.dns_header.specs.Record.{RecordOf}
use Rattle.dns_sections.specs.Cursor.{Cursor, Gives}
use Rattle.dns_sections.specs.Questions.{NoQuestion, QuestionIsCut}
use Rattle.dns_sections.specs.Sections.{SectionCursor, LeadsOn}
use Rattle.dns_sections.specs.declared.section.Section.{Section}

-- what contracts see of a result's item
abbrev pub seen : {A B : Type 0} → (A → B) → Option (Result A ParseError) → Option (Result B ParseError)
seen see None = None
seen see (Some (Ok item)) = Some (Ok (see item))
seen see (Some (Err error)) = Some (Err error)

-- the next question, with its labels
abbrev pub GivesQuestion : Cursor → Option (Result Question ParseError) → Cursor → Type 0
GivesQuestion = Gives ReadsQuestion NoQuestion QuestionIsCut

-- the next record
abbrev pub GivesRecord : Cursor → Option (Result Parsed ParseError) → Cursor → Type 0
GivesRecord = Gives HoldsRecord NoWhole WholeIsCut

-- these records come first, and the cursor is then after them
pub data GoesOver : Cursor → List Parsed → Cursor → Type 0 where
  here : {cursor : Cursor} → GoesOver cursor [] cursor
  on : {old mid new : Cursor} {parsed : Parsed} {others : List Parsed} → GivesRecord old (Some (Ok parsed)) mid
      → GoesOver mid others new → GoesOver old (parsed ∷ others) new

-- a record is returned with its data, or as an error if the data does not parse
abbrev pub IsGivenAs : {Data : Type 0} → (List ℕ → ℕ → ℕ → Data → Type 0) → Parsed
    → Result (RecordOf (List (List ℕ)) Data) ParseError → Type 0
IsGivenAs reads parsed (Ok rr) = IsRecordOf reads parsed rr
IsGivenAs reads parsed (Err error) = HasNoData reads parsed

-- What a cursor over records with their data returns, if it returns those that `IsAsked`: it skips the others up to the
-- first of them. A record whose data does not parse is an error of that record only; one whose header or length does
-- not parse ends the cursor.
pub data GivesAsked {Data : Type 0} (IsAsked : Parsed → Type 0) (reads : List ℕ → ℕ → ℕ → Data → Type 0)
    : Cursor → Option (Result (RecordOf (List (List ℕ)) Data) ParseError) → Cursor → Type 0 where
  found : {old mid new : Cursor} {passed : List Parsed} {parsed : Parsed} {result : Result (RecordOf (List (List ℕ)) Data) ParseError}
      → GoesOver old passed mid → AllByRecursion (λ other. IsAsked other → ⊥) passed → GivesRecord mid (Some (Ok parsed)) new
      → IsAsked parsed → IsGivenAs reads parsed result → GivesAsked IsAsked reads old (Some result) new
  broken : {old mid new : Cursor} {passed : List Parsed} {error : ParseError}
      → GoesOver old passed mid → AllByRecursion (λ other. IsAsked other → ⊥) passed → GivesRecord mid (Some (Err error)) new
      → GivesAsked IsAsked reads old (Some (Err error)) new
  ended : {old new : Cursor} {passed : List Parsed}
      → GoesOver old passed new → AllByRecursion (λ other. IsAsked other → ⊥) passed → GivesRecord new None new
      → GivesAsked IsAsked reads old None new

-- a record of a type that is taken and, if only class IN is asked for, of that class (1)
abbrev pub IsTaken : (ℕ → Bool) → Bool → Parsed → Type 0
IsTaken takes in_only parsed = (takes parsed.head.rtype ≡ true) × (in_only ≡ true → parsed.head.class ≡ 1)

-- any record
abbrev pub IsAny : Parsed → Type 0
IsAny parsed = ⊤

-- a record of a message, and its section
pub record Sectioned : Type 0 where
  pub parsed : Parsed
  pub section : Section

-- What a cursor over all records of a message returns: those of a section, and then those of the next section, if that
-- can be reached. An error ends it, after it is returned a second time if another section follows. None is a cursor
-- that has ended.
pub data GivesAll : Option SectionCursor → Option (Result Sectioned ParseError) → Option SectionCursor → Type 0 where
  over : GivesAll None None None
  item : {old new : Cursor} {section : Section} {parsed : Parsed} → GivesRecord old (Some (Ok parsed)) new
      → GivesAll (Some (record { cursor = old; section = section })) (Some (Ok (record { parsed = parsed; section = section })))
      (Some (record { cursor = new; section = section }))
  broken : {old new : Cursor} {section : Section} {error : ParseError} → GivesRecord old (Some (Err error)) new
      → GivesAll (Some (record { cursor = old; section = section })) (Some (Err error)) (Some (record { cursor = new; section = section }))
  on : {old : Cursor} {section : Section} {behind new : Option SectionCursor} {result : Option (Result Sectioned ParseError)}
      → GivesRecord old None old → LeadsOn (record { cursor = old; section = section }) (Ok behind) → GivesAll behind result new
      → GivesAll (Some (record { cursor = old; section = section })) result new
  stuck : {old : Cursor} {section : Section} {error : ParseError} → GivesRecord old None old
      → LeadsOn (record { cursor = old; section = section }) (Err error)
      → GivesAll (Some (record { cursor = old; section = section })) (Some (Err error)) None
