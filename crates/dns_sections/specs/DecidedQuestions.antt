-- Whether two cursors have the same questions left is decided, and a partial equivalence.
use Rattle.std.specs.Prelude.{◌≡◌, ◌+◌, ◌-◌, ◌<◌, ◌≤◌, ◌⊎◌, ℕ, zero, suc, Bool, true, false, List, [], ◌∷◌, Some, Result, Ok, Err, length}
use Rattle.std.specs.Bool.{Decides}
use Rattle.std.specs.Cmp.{IsPartialEquivalence, both_ways, partial_equiv_from_equiv}
use Rattle.std.specs.Cmp.Lexicographic.{pointwise, lists_per}
use Rattle.std.proofs.Common.{◌∙◌, inl, inr, refl, sym, arith}
use Rattle.std.proofs.lemmas.Bool.{false≢true}
use Rattle.dns_label.proofs.Spelling.{reads_one}
use Rattle.dns_octets.specs.declared.error.ParseError.{ParseError}
use Rattle.dns_octets.specs.Numbers.{number_at}
use Rattle.dns_header.specs.Question.{Question, ReadsQuestion}
use Rattle.dns_header.specs.QuestionLaws.{questions_equivalence}
use Rattle.dns_header.specs.QuestionOrder.{questions_eq}
use Rattle.dns_sections.specs.Answers.{HasQuestions, AskTheSame}
use Rattle.dns_sections.specs.Cursor.{Cursor}
use Rattle.dns_sections.specs.Given.{GivesQuestion}
use Rattle.dns_sections.specs.DecidedNames.{Named, decide-named}
use Rattle.dns_sections.specs.Decision.{Decision, holds, holds-true, true-holds, below}
use Rattle.dns_sections.specs.QuestionsLeft.{begin, questions-one}

-- a question that is read at a place, and the place after it
record Asked (message : List ℕ) (place : ℕ) : Type 0 where
  question : Question
  next : ℕ
  reads : ReadsQuestion message place question next

decide-asked : (message : List ℕ) (place : ℕ) → Decision (Asked message place)
decide-asked message place = by_named (decide-named message place)
  where
    by_length : (n : Named message place) → (length message < n.next + 4) ⊎ (n.next + 4 ≤ length message) → Decision (Asked message place)
    by_length n (inl short) = Decision.no (λ a.
        let one = reads_one n.reads a.reads.name in omega (arith, short, one.1, a.reads.whole))
    by_length n (inr whole) = Decision.yes (record {
      question = record { name = n.name; qtype = number_at message n.next; qclass = number_at message (n.next + 2) };
      next = n.next + 4;
      reads = record { behind = n.next; name = n.reads; whole = whole; qtype = refl; qclass = refl; ends = refl };
    })

    by_named : Decision (Named message place) → Decision (Asked message place)
    by_named (Decision.yes n) = by_length n (below (length message) (n.next + 4))
    by_named (Decision.no none) = Decision.no (λ a. none (record { name = a.question.name; next = a.reads.behind; reads = a.reads.name }))

-- the questions that a cursor has left, if they all parse
record Left (cursor : Cursor) : Type 0 where
  questions : List Question
  has : HasQuestions cursor questions

abbrev at : List ℕ → ℕ → ℕ → Cursor
at message place left = record { message = message; place = place; left = Ok left }

-- the first of them is read
first-asked : {cursor : Cursor} {questions : List Question} {count : ℕ} → HasQuestions cursor questions → cursor.left ≡ Ok (suc count)
    → Asked cursor.message cursor.place
first-asked {count = count} (HasQuestions.none left) is = let none : suc count ≡ 0 = cc in absurd (omega arith)
first-asked (HasQuestions.more {new = new} {question = question} gives rest) is =
    record { question = question; next = new.place; reads = gives.2 }

asked-given : (message : List ℕ) (place count : ℕ) (asked : Asked message place)
    → GivesQuestion (at message place (suc count)) (Some (Ok asked.question)) (at message asked.next count)
asked-given message place count asked =
    let less : count ≡ suc count - 1 = omega arith in (
      suc count,
      (refl, omega arith),
      asked.reads,
      λ i. record { message = message; place = asked.next; left = Ok (less i) },
    )

by-asked : (message : List ℕ) (place count : ℕ) → Decision (Asked message place) → ((next : ℕ) → Decision (Left (at message next count)))
    → Decision (Left (at message place (suc count)))
by-asked message place count (Decision.no none) behind = Decision.no (λ l. none (first-asked l.has refl))
by-asked message place count (Decision.yes asked) behind = by_rest (behind asked.next)
  where
    by_rest : Decision (Left (at message asked.next count)) → Decision (Left (at message place (suc count)))
    by_rest (Decision.yes l) = Decision.yes (record {
      questions = asked.question ∷ l.questions;
      has = HasQuestions.more (asked-given message place count asked) l.has;
    })
    by_rest (Decision.no none) = Decision.no (λ l.
        let first = begin (asked-given message place count asked) l.has in none (record { questions = first.others; has = first.left }))

decide-count : (message : List ℕ) (count place : ℕ) → Decision (Left (at message place count))
decide-count message zero place = Decision.yes (record { questions = []; has = HasQuestions.none refl })
decide-count message (suc count) place =
    by-asked message place count (decide-asked message place) (λ next. decide-count message count next)

-- no question is left of a cursor that met an error
never-left : {cursor : Cursor} {questions : List Question} {error : ParseError} → HasQuestions cursor questions → cursor.left ≡ Err error → ⊥
never-left (HasQuestions.none left) is = cc
never-left (HasQuestions.more gives rest) is = let left = gives.1.0 in cc

decide-left : (message : List ℕ) (place : ℕ) (left : Result ℕ ParseError)
    → Decision (Left (record { message = message; place = place; left = left }))
decide-left message place (Ok count) = decide-count message count place
decide-left message place (Err error) = Decision.no (λ l. never-left l.has refl)

-- Whether two cursors have the same questions left: a question that does not parse equals none.
pub decide-same : (one other : Cursor) → Decision (AskTheSame one other)
decide-same one other = by_left (decide-left one.message one.place one.left) (decide-left other.message other.place other.left)
  where
    by_equality : (l : Left one) (r : Left other) (same : Bool) → pointwise questions_eq l.questions r.questions ≡ same
        → Decision (AskTheSame one other)
    by_equality l r true is =
        Decision.yes (record { questions = l.questions; others = r.questions; of_one = l.has; of_other = r.has; same = is })
    by_equality l r false is = Decision.no (λ s. false≢true
        (sym is ∙ (λ i. pointwise questions_eq (questions-one l.has s.of_one i) (questions-one r.has s.of_other i)) ∙ s.same))

    by_left : Decision (Left one) → Decision (Left other) → Decision (AskTheSame one other)
    by_left (Decision.yes l) (Decision.yes r) = by_equality l r (pointwise questions_eq l.questions r.questions) refl
    by_left (Decision.yes l) (Decision.no none) = Decision.no (λ s. none (record { questions = s.others; has = s.of_other }))
    by_left (Decision.no none) right = Decision.no (λ s. none (record { questions = s.questions; has = s.of_one }))

same-per : IsPartialEquivalence (pointwise questions_eq)
same-per = lists_per (partial_equiv_from_equiv questions_equivalence)

same-turned : {one other : Cursor} → AskTheSame one other → AskTheSame other one
same-turned s = record {
  questions = s.others;
  others = s.questions;
  of_one = s.of_other;
  of_other = s.of_one;
  same = same-per.symm s.others s.questions ∙ s.same;
}

same-joined : {one other third : Cursor} → AskTheSame one other → AskTheSame other third → AskTheSame one third
same-joined s t =
    let mid : pointwise questions_eq s.others t.others ≡ true =
    (λ i. pointwise questions_eq (questions-one s.of_other t.of_one i) t.others) ∙ t.same in record {
      questions = s.questions;
      others = t.others;
      of_one = s.of_one;
      of_other = t.of_other;
      same = same-per.trans s.questions s.others t.others s.same mid;
    }

-- whether two cursors have the same questions left, as a Bool
pub ask_the_same : Cursor → Cursor → Bool
ask_the_same one other = holds (decide-same one other)

pub asks_decided : (one other : Cursor) → Decides (ask_the_same one other) (AskTheSame one other)
unfolding ask_the_same
asks_decided one other = (true-holds (decide-same one other), holds-true (decide-same one other))

pub asks_equivalence : IsPartialEquivalence ask_the_same
asks_equivalence = record {
  symm = λ one other. both_ways (ask_the_same one other) (ask_the_same other one)
      (λ is. (asks_decided other one).1 (same-turned ((asks_decided one other).0 is)))
      (λ is. (asks_decided one other).1 (same-turned ((asks_decided other one).0 is)));
  trans = λ one other third is are. (asks_decided one third).1
      (same-joined ((asks_decided one other).0 is) ((asks_decided other third).0 are));
}
