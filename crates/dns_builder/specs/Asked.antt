-- The questions of a query, pushed into a message (RFC 1035 4.1.2).
use Rattle.std.specs.Prelude.{◌<◌, ℕ, List, [], ◌∷◌, ◌++◌, length, Some, Ok, Err, map}
use Rattle.dns_octets.specs.declared.error.ParseError.{ParseError}
use Rattle.dns_name.specs.Spelling.{Spelling}
use Rattle.dns_name.specs.Page.{Parts}
use Rattle.dns_header.specs.Question.{Question, question_parts}
use Rattle.dns_sections.specs.Cursor.{Cursor, IsSpent}
use Rattle.dns_sections.specs.Given.{GivesQuestion}
use Rattle.dns_builder.specs.Built.{Draft, IsDraftOf}
use Rattle.dns_builder.specs.Steps.{IsRefusedBy}
use Rattle.dns_sections.specs.declared.error.PushError.{PushError}

-- a cursor returns these questions first, one after another, and is then at `new`
pub data GivesQuestions : Cursor → List Question → Cursor → Type 0 where
  none : {cursor : Cursor} → GivesQuestions cursor [] cursor
  more : {old mid new : Cursor} {question : Question} {others : List Question} → GivesQuestion old (Some (Ok question)) mid
      → GivesQuestions mid others new → GivesQuestions old (question ∷ others) new

-- These are the questions that a cursor has left: all of them, or those before the first that does not parse.
pub data AreReadable : Cursor → List Question → Type 0 where
  all : {old new : Cursor} {questions : List Question} → GivesQuestions old questions new → IsSpent new → AreReadable old questions
  broken : {old mid new : Cursor} {questions : List Question} {error : ParseError} → GivesQuestions old questions mid
      → GivesQuestion mid (Some (Err error)) new → AreReadable old questions

-- A draft holds the questions after the items of its only section. If there is one, the message is shorter than its
-- limit.
pub record HoldsQuestions (s : Spelling) (header : List ℕ) (items : List Parts) (questions : List Question) (draft : Draft) : Type 0 where
  pub holds : IsDraftOf s (record { header = header; sections = (items ++ map question_parts questions) ∷ [] }) draft
  pub short : 0 < length questions → length draft.page.octets < draft.limit

-- the questions are added to the question section, which is the last
abbrev pub AddsQuestions : Spelling → Draft → List Question → Draft → Type 0
AddsQuestions s old questions new =
    (header : List ℕ) (items : List Parts) → IsDraftOf s (record { header = header; sections = items ∷ [] }) old
    → HoldsQuestions s header items questions new

-- After these questions of a cursor were pushed, the push of the next one fails with an error.
pub record RefusesNext (s : Spelling) (cursor : Cursor) (questions : List Question) (draft : Draft) (error : PushError) : Type 0 where
  pub before : Cursor
  pub behind : Cursor
  pub question : Question
  pub first : GivesQuestions cursor questions before
  pub next : GivesQuestion before (Some (Ok question)) behind
  pub refused : IsRefusedBy s 0 draft (question_parts question) ⊥ error
