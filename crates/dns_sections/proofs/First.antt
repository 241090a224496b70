-- The first question of a message.
use Rattle.std.proofs.Common.{◌≡◌, ◌∙◌, ◌+◌, ℕ, List, Some, None, Ok, Err, ap, subst, sym, arith}
use Rattle.std.specs.Prelude.{Result, IfErr}
use Rattle.dns_octets.specs.declared.error.ParseError.{ParseError}
use Rattle.dns_header.specs.Header.{question_count}
use Rattle.dns_header.specs.Question.{Question}
use Rattle.dns_sections.specs.Cursor.{Cursor}
use Rattle.dns_sections.specs.Given.{GivesQuestion, seen}
use Rattle.dns_sections.specs.Questions.{first_question}
use Rattle.dns_sections.specs.QuestionsLeft.{question-one}
use Rattle.dns_sections.specs.Asked.{IsFirstQuestion, HasNoSoleQuestion}

module _ (message : List ℕ) (at new : Cursor) (is : at ≡ first_question message) where
  first-given : (question : Question) → GivesQuestion (first_question message) (Some (Ok question)) new → IsFirstQuestion message question
  first-given question gives =
      let count : question_count message ≡ gives.0 = cc (gives.1.0) in record {
        some = omega (arith, count, gives.1.1);
        next = new.place;
        reads = gives.2;
      }

  pub first-is : (question : Question) → GivesQuestion at (Some (Ok question)) new → IsFirstQuestion message question
  first-is question gives = first-given question (subst (λ (c : Cursor). GivesQuestion c (Some (Ok question)) new) is gives)

  pub first-none : GivesQuestion at None new → (question : Question) → IsFirstQuestion message question → ⊥
  first-none gives question first =
      let spent = subst (λ (c : Cursor). GivesQuestion c None new) is gives in
      omega (arith, spent.0, first.some)

  pub first-bad : (error : ParseError) → GivesQuestion at (Some (Err error)) new → (question : Question) → IsFirstQuestion message question → ⊥
  first-bad error gives question first =
      let refused = subst (λ (c : Cursor). GivesQuestion c (Some (Err error)) new) is gives in
      refused.2.none question first.next first.reads

  -- the one that is counted does not parse
  pub sole-bad : {X : Type 0} (view : X → Question) (result : Result X ParseError) → question_count message ≡ 1
      → GivesQuestion at (seen view (Some result)) new → IfErr result (HasNoSoleQuestion message)
  sole-bad view (Ok question) one gives = _
  sole-bad view (Err error) one gives =
      let refused = subst (λ (c : Cursor). GivesQuestion c (Some (Err error)) new) is gives in HasNoSoleQuestion.unread one refused.2

-- a message has at most one first question
pub first-one : (message : List ℕ) (question other : Question) → IsFirstQuestion message question → IsFirstQuestion message other → question ≡ other
first-one message question other first second = (question-one first.reads second.reads).0
