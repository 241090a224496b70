-- The first and the last of the records that a section returns (RFC 1035 4.1).
use Rattle.std.specs.Prelude.{◌≡◌, ℕ, Bool, false, List, Option, Some, None, Result, Ok, Err}
use Rattle.dns_octets.specs.declared.error.ParseError.{ParseError}
use Rattle.dns_header.specs.ParsedRecord.{Parsed}
use Rattle.dns_header.specs.Record.{RecordOf}
use Rattle.dns_sections.specs.Cursor.{Cursor}
use Rattle.dns_sections.specs.Given.{GivesRecord, GoesOver, GivesAsked, IsTaken}
use Rattle.dns_sections.specs.Sections.{SectionCursor, IsSectionOf, IsOutOfReach}
use Rattle.dns_sections.specs.declared.section.Section.{Section}
use Rattle.dns_sections.specs.declared.section.Section.TheVariants.{Additional}

-- The first record of a section whose type is taken, of any class: the record, or an error if its data, or the header
-- or length of a record before it, does not parse. None if there is no such record, or the section cannot be reached.
pub data GivesFirst {Data : Type 0} (takes : ℕ → Bool) (reads : List ℕ → ℕ → ℕ → Data → Type 0) (message : List ℕ) (section : Section)
    : Option (Result (RecordOf (List (List ℕ)) Data) ParseError) → Type 0 where
  reached : {at : SectionCursor} {new : Cursor} {result : Option (Result (RecordOf (List (List ℕ)) Data) ParseError)}
      → IsSectionOf message section at → GivesAsked (IsTaken takes false) reads at.cursor result new
      → GivesFirst takes reads message section result
  out_of_reach : {error : ParseError} → IsOutOfReach message section error → GivesFirst takes reads message section None

-- The last record of the additional section, after all others of it. None if the section cannot be reached or counts no
-- record, or if the header or length of one of its records does not parse.
pub data LastAdditional (message : List ℕ) : Option Parsed → Type 0 where
  last : {at : SectionCursor} {mid new : Cursor} {others : List Parsed} {parsed : Parsed} → IsSectionOf message Additional at
      → GoesOver at.cursor others mid → GivesRecord mid (Some (Ok parsed)) new → new.left ≡ Ok 0 → LastAdditional message (Some parsed)
  empty : {at : SectionCursor} → IsSectionOf message Additional at → at.cursor.left ≡ Ok 0 → LastAdditional message None
  broken : {at : SectionCursor} {mid new : Cursor} {others : List Parsed} {error : ParseError} → IsSectionOf message Additional at
      → GoesOver at.cursor others mid → GivesRecord mid (Some (Err error)) new → LastAdditional message None
  out_of_reach : {error : ParseError} → IsOutOfReach message Additional error → LastAdditional message None
