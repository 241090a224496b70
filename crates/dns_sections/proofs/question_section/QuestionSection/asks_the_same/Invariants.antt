use Rattle.std.proofs.Common.{◌≡◌, ◌-◌, Ok}
use Rattle.dns_sections.specs.Answers.{AskTheSame}
use Rattle.dns_sections.specs.Seen.{questions_at}
use Rattle.dns_sections.proofs.question_section.QuestionSection.asks_the_same.Given as goal

abbrev pub invariant-loop : goal.invariant-loop
invariant-loop l = record {
  left : (questions_at l.self).left ≡ Ok (l.left - l.counter);
  others : (questions_at l.other).left ≡ Ok (l.left - l.counter);
  back : AskTheSame (questions_at l.self) (questions_at l.other) → AskTheSame (questions_at l.initial.self) (questions_at l.initial.other);
  forth : AskTheSame (questions_at l.initial.self) (questions_at l.initial.other) → AskTheSame (questions_at l.self) (questions_at l.other);
}
