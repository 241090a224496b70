-- The questions that a cursor has left are one list.
use Rattle.std.specs.Prelude.{◌≡◌, ◌+◌, ℕ, List, ◌∷◌, Some, Ok}
use Rattle.std.proofs.Common.{◌∙◌, refl, ap, subst, sym, arith}
use Rattle.dns_label.proofs.Spelling.{reads_one}
use Rattle.dns_octets.specs.Numbers.{number_at}
use Rattle.dns_header.specs.Question.{Question, ReadsQuestion}
use Rattle.dns_sections.specs.Answers.{HasQuestions}
use Rattle.dns_sections.specs.Cursor.{Cursor}
use Rattle.dns_sections.specs.Given.{GivesQuestion}
use Rattle.dns_sections.specs.OneStep.{given-one}
use Rattle.dns_sections.specs.Questions.{NoQuestion, QuestionIsCut}

-- at most one question is at a place
pub question-one : {message : List ℕ} {place next end : ℕ} {question other : Question} → ReadsQuestion message place question next
    → ReadsQuestion message place other end → (question ≡ other) × (next ≡ end)
question-one {message} {question = question} {other = other} reads others =
    let one = reads_one reads.name others.name in
    let qtype : question.qtype ≡ other.qtype = reads.qtype ∙ ap (number_at message) one.1 ∙ sym others.qtype in
    let qclass : question.qclass ≡ other.qclass = reads.qclass ∙ ap (λ n. number_at message (n + 2)) one.1 ∙ sym others.qclass in
    (λ i. record { name = one.0 i; qtype = qtype i; qclass = qclass i }, reads.ends ∙ ap (λ n. n + 4) one.1 ∙ sym others.ends)

-- questions that begin with one, and the others, which a cursor has left
pub record BeginWith (question : Question) (behind : Cursor) (questions : List Question) : Type 0 where
  pub others : List Question
  pub is : questions ≡ question ∷ others
  pub left : HasQuestions behind others

pub begin : {old behind : Cursor} {question : Question} {questions : List Question} → GivesQuestion old (Some (Ok question)) behind
    → HasQuestions old questions → BeginWith question behind questions
begin gives (HasQuestions.none left) =
    let zero : gives.0 ≡ 0 = cc (gives.1.0, left) in absurd (omega (arith, zero, gives.1.1))
begin {old} {behind} {question} gives (HasQuestions.more {new = new} {question = other} {others = others} first rest) =
    let one = given-one ReadsQuestion NoQuestion QuestionIsCut (λ q r. q ≡ r) (λ message place next end q r reads others. question-one reads others) old behind new question other gives first in record {
      others = others;
      is = ap (λ q. q ∷ others) (sym one.0);
      left = subst (λ c. HasQuestions c others) (sym one.1) rest;
    }

pub questions-one : {cursor : Cursor} {questions others : List Question} → HasQuestions cursor questions → HasQuestions cursor others
    → questions ≡ others
questions-one (HasQuestions.none left) (HasQuestions.none zero) = refl
questions-one (HasQuestions.none left) (HasQuestions.more gives rest) =
    let zero : gives.0 ≡ 0 = cc (gives.1.0, left) in absurd (omega (arith, zero, gives.1.1))
questions-one (HasQuestions.more {question = question} gives rest) others =
    let first = begin gives others in ap (λ q. question ∷ q) (questions-one rest first.left) ∙ sym first.is
