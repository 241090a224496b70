use Rattle.std.proofs.Common.{subst}
use Rattle.dns_sections.specs.Cursor.{Cursor}
use Rattle.dns_sections.specs.Message.{octets_in}
use Rattle.dns_builder.specs.Asked.{AreReadable, RefusesNext}
use Rattle.dns_builder.specs.Seen.{draft_of}
use Rattle.dns_builder.proofs.Begun.{answered, refused, handed-on, limits-on}
use Rattle.dns_builder.proofs.builder.answer.SectionBuilder+Target+Start.start_answer.Goals as goal

pub returns-in_err-push_questions-clause-why : goal.returns-in_err-push_questions-clause-why
returns-in_err-push_questions-clause-why g c built is =
    let s = g.Target.Composer.spelling in
    let error = c.in_err-push_questions.field-0.0 in
    let pushed = draft_of c.push_questions.new.self in
    let why = c.in_err-push_questions.ensures.why in
    handed-on c.from_residual.result error _ c.from_residual.ensures.1 (
      why.0,
      refused s c.header.result (octets_in g.Octs.Octets.list c.args.query.now) c.args.rcode built (draft_of c.begin_questions-builder.result) pushed
          c.header.ensures.said (c.begin_questions-builder.ensures.built built is) why.0 why.2 (draft_of c.args.self)
          (limits-on _ _ _ c.begin_questions-builder.ensures.limits c.push_questions.ensures.limits) error
          (subst (λ (cursor : Cursor). RefusesNext s cursor why.0 pushed error) c.question.ensures why.1),
    )

pub returns-clause-ok : goal.returns-clause-ok
returns-clause-ok g c built is =
    let pushed = c.in_ok-push_questions.ensures.ok in
    answered g.Target.Composer.spelling c.header.result (octets_in g.Octs.Octets.list c.args.query.now) c.args.rcode built
    (draft_of c.begin_questions-builder.result) (draft_of c.push_questions.new.self) c.header.ensures.said
    (c.begin_questions-builder.ensures.built built is) pushed.0 pushed.2
    (subst (λ (cursor : Cursor). AreReadable cursor pushed.0) c.question.ensures pushed.1)
    (draft_of c.answer.result) c.answer.ensures.built c.answer.ensures.limits

pub returns-clause-stays : goal.returns-clause-stays
returns-clause-stays g c =
    g.met.Target.OctetsBuilder.stays_on _ _ _
    (g.met.Target.OctetsBuilder.stays_on _ _ _ c.begin_questions-builder.ensures.stays c.push_questions.ensures.stays) c.answer.ensures.stays
