use Rattle.std.proofs.Common.{ap, refl}
use Rattle.dns_name.specs.ParsedName.{labels_of}
use Rattle.dns_header.specs.QuestionParts.{question_of}
use Rattle.dns_sections.specs.Seen.{questions_at}
use Rattle.dns_builder.specs.Seen.{draft_of, target_in}
use Rattle.dns_builder.proofs.Asking.{has-none, has-more, has-refused, has-broken, has-all}
use Rattle.dns_builder.proofs.Begun.{handed-on, limits-on}
use Rattle.dns_builder.proofs.builder.answer.SectionBuilder+Target+Questions.push_questions.Goals as goal

pub loop-question-init : goal.loop-question-init
loop-question-init g c = record {
  added = has-none g.Target.Composer.spelling (questions_at c.args.questions) _ (draft_of c.args.self.now)
      (ap questions_at c.into_iter-question-iterator.ensures.into_iter_gives);
  limits = record { limit = refl; bound = refl };
  stays = g.met.Target.OctetsBuilder.stays_here (target_in c.args.self.now);
}

pub loop-question-preserved : goal.loop-question-preserved
loop-question-preserved g c = record {
  added = has-more (question_of labels_of) c.in-Some.question g.Target.Composer.spelling (questions_at c.args.questions)
      (questions_at c.loop-question.question-iterator) (questions_at c.next.new.self) (draft_of c.args.self.now) (draft_of c.loop-question.self)
      c.loop-question.invariant.added c.in-Some.ensures.steps c.in-Ok.question c.in-Ok.is (draft_of c.push_parsed.new.self)
      c.in_ok-push_parsed.ensures.ok c.in_ok-push_parsed.ensures.taken c.push_parsed.ensures.limits;
  limits = limits-on _ _ _ c.loop-question.invariant.limits c.push_parsed.ensures.limits;
  stays = g.met.Target.OctetsBuilder.stays_on _ _ _ c.loop-question.invariant.stays c.push_parsed.ensures.stays;
}

pub returns-in_err-push_parsed-clause-why : goal.returns-in_err-push_parsed-clause-why
returns-in_err-push_parsed-clause-why g c =
    handed-on c.from_residual.result c.in_err-push_parsed.field-0.0 _ c.from_residual.ensures.1
    (has-refused (question_of labels_of) c.in-Some.question g.Target.Composer.spelling (questions_at c.args.questions)
    (questions_at c.loop-question.question-iterator) (questions_at c.next.new.self) (draft_of c.args.self.now) (draft_of c.loop-question.self)
    c.loop-question.invariant.added c.in-Some.ensures.steps c.in-Ok.question c.in-Ok.is (draft_of c.push_parsed.new.self)
    c.in_err-push_parsed.ensures.err c.in_err-push_parsed.field-0.0 c.in_err-push_parsed.ensures.why)

pub returns-in_default-clause-ok : goal.returns-in_default-clause-ok
returns-in_default-clause-ok g c =
    has-broken (question_of labels_of) c.in-Some.question g.Target.Composer.spelling (questions_at c.args.questions)
    (questions_at c.loop-question.question-iterator) (questions_at c.next.new.self) (draft_of c.args.self.now) (draft_of c.loop-question.self)
    c.loop-question.invariant.added c.in-Some.ensures.steps c.in_default.field-0 c.in_default.is

pub returns-clause-ok : goal.returns-clause-ok
returns-clause-ok g c =
    has-all g.Target.Composer.spelling (questions_at c.args.questions) (questions_at c.loop-question.question-iterator) (draft_of c.args.self.now)
    (draft_of c.loop-question.self) c.loop-question.invariant.added c.in-None.ensures.steps.0
