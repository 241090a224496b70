-- Cursors that have the same questions left.
use Rattle.std.proofs.Common.{◌≡◌, ◌∙◌, ◌+◌, ◌<◌, ◌-◌, ℕ, suc, Bool, true, false, List, [], ◌∷◌, Some, None, Ok, Err, length, refl, ap, sym, arith}
use Rattle.std.specs.Cmp.{first_so, second_so}
use Rattle.std.specs.Cmp.Derive.{both_true}
use Rattle.std.specs.Cmp.Lexicographic.{pointwise, as_long}
use Rattle.std.proofs.lemmas.Bool.{false≢true}
use Rattle.std.specs.Prelude.{not}
use Rattle.dns_octets.specs.declared.error.ParseError.{ParseError}
use Rattle.dns_header.specs.Question.{Question, ReadsQuestion}
use Rattle.dns_header.specs.QuestionOrder.{questions_eq}
use Rattle.dns_sections.specs.Answers.{HasQuestions, AskTheSame}
use Rattle.dns_sections.specs.Cursor.{Cursor}
use Rattle.dns_sections.specs.Given.{GivesQuestion}
use Rattle.dns_sections.specs.Questions.{NoQuestion, QuestionIsCut}
use Rattle.dns_sections.specs.QuestionsLeft.{begin}
use Rattle.dns_sections.specs.OneStep.{given-some, given-read}

-- no question is returned if the cursor returns none
pub none-given : (old new behind : Cursor) (question : Question) → GivesQuestion old None new → GivesQuestion old (Some (Ok question)) behind → ⊥
none-given old new behind question none gives = given-some ReadsQuestion NoQuestion QuestionIsCut old behind new question gives none

-- nor if it returns an error
pub bad-given : (old new behind : Cursor) (question : Question) (error : ParseError) → GivesQuestion old (Some (Err error)) new
    → GivesQuestion old (Some (Ok question)) behind → ⊥
bad-given old new behind question error bad gives =
    given-read ReadsQuestion NoQuestion QuestionIsCut (λ message place next q none reads. none q next reads) old behind new question error gives bad

-- as many questions are left as the list has
left-length : {cursor : Cursor} {questions : List Question} → HasQuestions cursor questions → cursor.left ≡ Ok (length questions)
left-length (HasQuestions.none left) = left
left-length (HasQuestions.more {new = new} {others = others} gives rest) =
    let tail : new.left ≡ Ok (length others) = left-length rest in
    let behind : new.left ≡ Ok (gives.0 - 1) = ap (λ (c : Cursor). c.left) gives.3 in
    let less : length others ≡ gives.0 - 1 = cc in
    let all : gives.0 ≡ suc (length others) = omega (arith, less, gives.1.1) in
    gives.1.0 ∙ ap (λ n. Ok n) all

-- a question is returned if one is left
some-given : {cursor : Cursor} {left : ℕ} {questions : List Question} → cursor.left ≡ Ok left → 0 < left → HasQuestions cursor questions
    → ((question : Question) (new : Cursor) → GivesQuestion cursor (Some (Ok question)) new → ⊥) → ⊥
some-given {cursor} {left} is some (HasQuestions.none zero) never =
    let none : left ≡ 0 = cc (is, zero) in omega (arith, none, some)
some-given is some (HasQuestions.more {new = new} {question = question} gives rest) never = never question new gives

module _ {one other : Cursor} where
  -- nothing is left in either
  pub same-ends : one.left ≡ Ok 0 → other.left ≡ Ok 0 → AskTheSame one other
  same-ends left others =
      record { questions = []; others = []; of_one = HasQuestions.none left; of_other = HasQuestions.none others; same = refl }

  -- as many are left
  pub same-left : AskTheSame one other → one.left ≡ other.left
  same-left same =
      left-length same.of_one ∙ ap (λ n. Ok n) (as_long questions_eq same.questions same.others same.same) ∙ sym (left-length same.of_other)

  -- every one of them is returned
  pub one-unread : {left : ℕ} → one.left ≡ Ok left → 0 < left
      → ((question : Question) (new : Cursor) → GivesQuestion one (Some (Ok question)) new → ⊥) → AskTheSame one other → ⊥
  one-unread is some never same = some-given is some same.of_one never

  pub other-unread : {left : ℕ} → other.left ≡ Ok left → 0 < left
      → ((question : Question) (new : Cursor) → GivesQuestion other (Some (Ok question)) new → ⊥) → AskTheSame one other → ⊥
  other-unread is some never same = some-given is some same.of_other never

-- a question of each
module _ {one other behind beyond : Cursor} {question asked : Question} (gives : GivesQuestion one (Some (Ok question)) behind)
    (gives-other : GivesQuestion other (Some (Ok asked)) beyond) where
  pub same-back : questions_eq question asked ≡ true → AskTheSame behind beyond → AskTheSame one other
  same-back alike rest = record {
    questions = question ∷ rest.questions;
    others = asked ∷ rest.others;
    of_one = HasQuestions.more gives rest.of_one;
    of_other = HasQuestions.more gives-other rest.of_other;
    same = both_true alike rest.same;
  }

  pub same-on : AskTheSame one other → (questions_eq question asked ≡ true) × AskTheSame behind beyond
  same-on same =
      let first = begin gives same.of_one in
      let second = begin gives-other same.of_other in
      let alike : pointwise questions_eq (question ∷ first.others) (asked ∷ second.others) ≡ true =
      sym (λ i. pointwise questions_eq (first.is i) (second.is i)) ∙ same.same in (
        first_so _ _ alike,
        record {
          questions = first.others;
          others = second.others;
          of_one = first.left;
          of_other = second.left;
          same = second_so _ _ alike;
        },
      )

-- one question less is left
pub one-less : (left counter : ℕ) (old new : Cursor) (question : Question) → GivesQuestion old (Some (Ok question)) new
    → old.left ≡ Ok (left - counter) → new.left ≡ Ok (left - (counter + 1))
one-less left counter old new question gives is =
    let had : gives.0 ≡ left - counter = cc (gives.1.0, is) in
    let has : gives.0 - 1 ≡ left - (counter + 1) = omega (arith, had) in
    ap (λ (c : Cursor). c.left) gives.3 ∙ ap (λ n. Ok n) has

-- what a test tells of the comparison that it negates
pub not-false : (same : Bool) → false ≡ not same → same ≡ true
not-false true is = refl
not-false false is = absurd (false≢true is)

pub not-true : (same : Bool) → true ≡ not same → same ≡ true → ⊥
not-true same is alike = false≢true (sym (is ∙ ap not alike))
