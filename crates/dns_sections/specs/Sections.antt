-- The sections of a message, which follow one another, and where each of them begins (RFC 1035 4.1).
use Rattle.std.specs.Prelude.{◌≡◌, ◌+◌, ℕ, List, Option, Some, None, Result, Ok, Err}
use Rattle.std.specs.Iterator.{Count, at_most, size}
use Rattle.dns_octets.specs.declared.error.ParseError.{ParseError}
use Rattle.dns_header.specs.Header.{question_count}
use Rattle.dns_header.specs.HeaderCounts.{Counts, counts_in}
use Rattle.dns_header.specs.Question.{SkipsQuestion}
use Rattle.dns_sections.specs.Cursor.{Cursor, Passes, IsStuck, PassesAll, items_left}
use Rattle.dns_header.specs.SkipsRecord.{SkipsRecord, SkipIsCut}
use Rattle.dns_sections.specs.Questions.{QuestionSkipIsCut}
use Rattle.dns_sections.specs.declared.section.Section.{Section}
use Rattle.dns_sections.specs.declared.section.Section.TheVariants.{Answer, Authority, Additional}

-- how many records are counted in a section
abbrev pub counted : Counts → Section → ℕ
counted counts Answer = counts.an
counted counts Authority = counts.ns
counted counts Additional = counts.ar

-- how many records the header counts in a section
abbrev pub count_in : List ℕ → Section → ℕ
count_in message section = counted (counts_in message) section

-- the section after another one
abbrev pub following : Section → Option Section
following Answer = Some Authority
following Authority = Some Additional
following Additional = None

-- The section begins at the place: the answer section after the header's twelve octets and the questions, every other
-- one after the records of the section before it. What comes before it is skipped, and no pointer is followed.
pub data Begins (message : List ℕ) : Section → ℕ → Type 0 where
  first : {place : ℕ} → Passes SkipsQuestion message 12 (question_count message) place → Begins message Answer place
  next : {before section : Section} {place behind : ℕ} → following before ≡ Some section → Begins message before place
      → Passes SkipsRecord message place (count_in message before) behind → Begins message section behind

-- The section cannot be reached: a question or a record before it cannot be skipped, with this error.
pub data IsOutOfReach (message : List ℕ) : Section → ParseError → Type 0 where
  question : {error : ParseError} → IsStuck SkipsQuestion QuestionSkipIsCut message 12 (question_count message) error
      → IsOutOfReach message Answer error
  earlier : {before section : Section} {error : ParseError} → following before ≡ Some section → IsOutOfReach message before error
      → IsOutOfReach message section error
  record' : {before section : Section} {place : ℕ} {error : ParseError} → following before ≡ Some section
      → Begins message before place → IsStuck SkipsRecord SkipIsCut message place (count_in message before) error
      → IsOutOfReach message section error

-- a cursor over the records of a section
pub record SectionCursor : Type 0 where
  pub cursor : Cursor
  pub section : Section

-- the cursor at the section's first record, at the place
abbrev pub at_start : List ℕ → Section → ℕ → SectionCursor
at_start message section place = record {
  cursor = record { message = message; place = place; left = Ok (count_in message section) };
  section = section;
}

-- a cursor at the first record of this section of the message
pub record IsSectionOf (message : List ℕ) (section : Section) (at : SectionCursor) : Type 0 where
  pub place : ℕ
  pub begins : Begins message section place
  pub is : at ≡ at_start message section place

-- the cursor over the records of all sections: at the first answer, or nowhere if that cannot be reached
abbrev pub IsAllOf : List ℕ → Option SectionCursor → Type 0
IsAllOf message (Some at) = IsSectionOf message Answer at
IsAllOf message None = (error : ParseError) × IsOutOfReach message Answer error

-- Where a cursor over a section leads: after the records that are left, without following a pointer, to the next
-- section; nowhere from the last section.
pub data LeadsOn : SectionCursor → Result (Option SectionCursor) ParseError → Type 0 where
  last : {at : SectionCursor} → following at.section ≡ None → LeadsOn at (Ok None)
  on : {at : SectionCursor} {section : Section} {next : ℕ} → following at.section ≡ Some section
      → PassesAll SkipsRecord SkipIsCut at.cursor (Ok next) → LeadsOn at (Ok (Some (at_start at.cursor.message section next)))
  stuck : {at : SectionCursor} {section : Section} {error : ParseError} → following at.section ≡ Some section
      → PassesAll SkipsRecord SkipIsCut at.cursor (Err error) → LeadsOn at (Err error)

-- No more items than this are returned if a cursor goes on into the next sections: what is left, and an error once
-- more.
abbrev pub after : Counts → Section → ℕ
after counts Answer = counts.ns + (counts.ar + 3)
after counts Authority = counts.ar + 2
after counts Additional = 1

abbrev pub all_left : Option SectionCursor → Count
all_left None = at_most 0
all_left (Some at) = at_most (size (items_left at.cursor) + after (counts_in at.cursor.message) at.section)
