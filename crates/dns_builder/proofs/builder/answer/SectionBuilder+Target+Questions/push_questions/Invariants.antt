use Rattle.dns_sections.specs.Seen.{questions_at}
use Rattle.dns_builder.specs.Seen.{draft_of, target_in}
use Rattle.dns_builder.specs.Steps.{KeepsLimits}
use Rattle.dns_builder.proofs.Asking.{HasAdded}
use Rattle.dns_builder.proofs.builder.answer.SectionBuilder+Target+Questions.push_questions.Given as goal

abbrev pub invariant-loop-question : goal.invariant-loop-question
invariant-loop-question g l = record {
  added : HasAdded g.Target.Composer.spelling (questions_at l.fn.questions) (questions_at l.question-iterator) (draft_of l.fn.self) (draft_of l.self);
  limits : KeepsLimits (draft_of l.fn.self) (draft_of l.self);
  stays : g.Target.OctetsBuilder.stays (target_in l.fn.self) (target_in l.self);
}
