-- The first record of a section is what a cursor at its first record returns.
use Rattle.std.proofs.Common.{◌≡◌, ℕ, Bool, true, false, List, Some, None, Ok, Err, subst, sym}
use Rattle.std.proofs.lemmas.Bool.{false≢true}
use Rattle.std.specs.Prelude.{Option, Result, is_some}
use Rattle.dns_octets.specs.declared.error.ParseError.{ParseError}
use Rattle.dns_header.specs.Record.{RecordOf}
use Rattle.dns_sections.specs.Cursor.{Cursor}
use Rattle.dns_sections.specs.Firsts.{GivesFirst}
use Rattle.dns_sections.specs.Given.{GivesAsked, IsTaken, seen}
use Rattle.dns_sections.specs.Sections.{SectionCursor, IsSectionOf}
use Rattle.dns_sections.specs.declared.section.Section.{Section}

module _ {Data : Type 0} (takes : ℕ → Bool) (reads : List ℕ → ℕ → ℕ → Data → Type 0) {message : List ℕ} {section : Section}
    (at old : SectionCursor) (new : Cursor) (only : Bool) (is : IsSectionOf message section at) (same : old ≡ at) (any : only ≡ false) where
  pub first-given : (result : Option (Result (RecordOf (List (List ℕ)) Data) ParseError))
      → GivesAsked (IsTaken takes only) reads old.cursor result new → GivesFirst takes reads message section result
  first-given result gives =
      GivesFirst.reached is (subst (λ o. GivesAsked (IsTaken takes o) reads at.cursor result new) any
      (subst (λ (c : SectionCursor). GivesAsked (IsTaken takes only) reads c.cursor result new) same gives))

  -- there is one, or none
  pub some-given : {X : Type 0} (view : X → RecordOf (List (List ℕ)) Data) (found : Option (Result X ParseError))
      → GivesAsked (IsTaken takes only) reads old.cursor (seen view found) new → is_some found ≡ true
      → (item : Result (RecordOf (List (List ℕ)) Data) ParseError) × GivesFirst takes reads message section (Some item)
  some-given view None gives there = absurd (false≢true there)
  some-given view (Some (Ok item)) gives there = (Ok (view item), first-given _ gives)
  some-given view (Some (Err error)) gives there = (Err error, first-given _ gives)

  pub none-given : {X : Type 0} (view : X → RecordOf (List (List ℕ)) Data) (found : Option (Result X ParseError))
      → GivesAsked (IsTaken takes only) reads old.cursor (seen view found) new → is_some found ≡ false
      → GivesFirst takes reads message section None
  none-given view None gives none = first-given None gives
  none-given view (Some item) gives none = absurd (false≢true (sym none))
