-- Sections that are reached, and where cursors over them lead.
use Rattle.std.proofs.Common.{◌≡◌, ℕ, List, Some, Ok, Err, MatchResult, ap, subst}
use Rattle.std.specs.Prelude.{Result}
use Rattle.dns_octets.specs.declared.error.ParseError.{ParseError}
use Rattle.dns_header.specs.Header.{question_count}
use Rattle.dns_header.specs.Question.{SkipsQuestion}
use Rattle.dns_sections.specs.Cursor.{Cursor, Passes, IsStuck, PassesAll}
use Rattle.dns_sections.specs.Questions.{QuestionSkipIsCut}
use Rattle.dns_sections.specs.Sections.{following, Begins, IsOutOfReach, SectionCursor, at_start, IsSectionOf, LeadsOn}
use Rattle.dns_sections.specs.declared.section.Section.{Section}
use Rattle.dns_sections.specs.declared.section.Section.TheVariants.{Answer}

-- `count` items at a place, and all are left
module _ {Skips : List ℕ → ℕ → ℕ → Type 0} {IsCut : List ℕ → ℕ → Type 0} {message : List ℕ} {place count : ℕ} where
  pub from-all : {next : ℕ} → PassesAll Skips IsCut (record { message = message; place = place; left = Ok count }) (Ok next)
      → Passes Skips message place count next
  from-all {next} (PassesAll.whole {left = left} is passes) =
      let same : left ≡ count = cc in subst (λ n. Passes Skips message place n next) same passes

  pub from-stuck : {error : ParseError} → PassesAll Skips IsCut (record { message = message; place = place; left = Ok count }) (Err error)
      → IsStuck Skips IsCut message place count error
  from-stuck (PassesAll.again is) = let no : ⊥ = cc in absurd no
  from-stuck {error} (PassesAll.stuck {left = left} is at) =
      let same : left ≡ count = cc in subst (λ n. IsStuck Skips IsCut message place n error) same at

-- the section after one that was reached
module _ {message : List ℕ} {before section : Section} where
  start-on : {place : ℕ} {found : SectionCursor} → following before ≡ Some section → Begins message before place
      → LeadsOn (at_start message before place) (Ok (Some found)) → IsSectionOf message section found
  start-on follows begins (LeadsOn.on {section = other} {next = next} leads passes) =
      let same : other ≡ section = cc in record {
        place = next;
        begins = Begins.next follows begins (from-all passes);
        is = ap (λ s. at_start message s next) same;
      }

  start-stuck : {place : ℕ} {error : ParseError} → following before ≡ Some section → Begins message before place
      → LeadsOn (at_start message before place) (Err error) → IsOutOfReach message section error
  start-stuck follows begins (LeadsOn.stuck leads passes) = IsOutOfReach.record' follows begins (from-stuck passes)

  pub section-on : {at found : SectionCursor} → following before ≡ Some section → IsSectionOf message before at → LeadsOn at (Ok (Some found))
      → IsSectionOf message section found
  section-on {at} {found} follows is leads = start-on follows is.begins (subst (λ c. LeadsOn c (Ok (Some found))) is.is leads)

  pub section-stuck : {at : SectionCursor} {error : ParseError} → following before ≡ Some section → IsSectionOf message before at
      → LeadsOn at (Err error) → IsOutOfReach message section error
  section-stuck {at} {error} follows is leads = start-stuck follows is.begins (subst (λ c. LeadsOn c (Err error)) is.is leads)

-- the result of going on to the answer section, after all questions
pub answers : {A : Type 0} (at : A → SectionCursor) {message : List ℕ} {cursor : Cursor} (result : Result A ParseError)
    → cursor ≡ record { message = message; place = 12; left = Ok (question_count message) }
    → MatchResult result
    (λ found. (next : ℕ) × PassesAll SkipsQuestion QuestionSkipIsCut cursor (Ok next) × (at found ≡ at_start cursor.message Answer next))
    (λ error. PassesAll SkipsQuestion QuestionSkipIsCut cursor (Err error))
    → MatchResult result (λ found. IsSectionOf message Answer (at found)) (IsOutOfReach message Answer)
answers at {message} (Ok found) is passed = record {
  place = passed.0;
  begins = Begins.first (from-all (subst (λ c. PassesAll SkipsQuestion QuestionSkipIsCut c (Ok passed.0)) is passed.1));
  is = subst (λ c. at found ≡ at_start c.message Answer passed.0) is passed.2;
}
answers at (Err error) is passed =
    IsOutOfReach.question (from-stuck (subst (λ c. PassesAll SkipsQuestion QuestionSkipIsCut c (Err error)) is passed))

-- the result of going on from a section that was reached to the next one
pub goes-on : {A : Type 0} (at : A → SectionCursor) {message : List ℕ} {before section : Section} {from : SectionCursor} (result : Result A ParseError)
    → following before ≡ Some section → IsSectionOf message before from
    → MatchResult result (λ found. LeadsOn from (Ok (Some (at found)))) (λ error. LeadsOn from (Err error))
    → MatchResult result (λ found. IsSectionOf message section (at found)) (IsOutOfReach message section)
goes-on at (Ok found) follows is leads = section-on follows is leads
goes-on at (Err error) follows is leads = section-stuck follows is leads
