use Rattle.std.proofs.Common.{subst}
use Rattle.dns_sections.specs.Cursor.{Cursor}
use Rattle.dns_sections.specs.Message.{octets_in}
use Rattle.dns_builder.specs.Asked.{AreReadable, RefusesNext}
use Rattle.dns_builder.specs.Seen.{draft_of}
use Rattle.dns_builder.proofs.Begun.{answered, failed, limits-on}
use Rattle.dns_builder.proofs.builder.answer.SectionBuilder+Target+Start.try_start_answer.Goals as goal

pub returns-in-Ok-clause-ok : goal.returns-in-Ok-clause-ok
returns-in-Ok-clause-ok g c built is =
    let pushed = c.in-Ok.ensures.ok in
    answered g.Target.Composer.spelling c.header.result (octets_in g.Octs.Octets.list c.args.query.now) c.args.rcode built
    (draft_of c.begin_questions-builder.result) (draft_of c.push_questions.new.self) c.header.ensures.said
    (c.begin_questions-builder.ensures.built built is) pushed.0 pushed.2
    (subst (λ (cursor : Cursor). AreReadable cursor pushed.0) c.question.ensures pushed.1)
    (draft_of c.answer.result) c.answer.ensures.built c.answer.ensures.limits

pub returns-in-Ok-clause-stays : goal.returns-in-Ok-clause-stays
returns-in-Ok-clause-stays g c =
    g.met.Target.OctetsBuilder.stays_on _ _ _
    (g.met.Target.OctetsBuilder.stays_on _ _ _ c.begin_questions-builder.ensures.stays c.push_questions.ensures.stays) c.answer.ensures.stays

pub returns-in-Err-clause-err : goal.returns-in-Err-clause-err
returns-in-Err-clause-err g c built is =
    let s = g.Target.Composer.spelling in
    let pushed = draft_of c.push_questions.new.self in
    let why = c.in-Err.ensures.why in
    failed s c.header.result (octets_in g.Octs.Octets.list c.args.query.now) c.args.rcode built (draft_of c.begin_questions-builder.result) pushed
    c.header.ensures.said (c.begin_questions-builder.ensures.built built is) why.0 why.2 (draft_of c.args.self)
    (limits-on _ _ _ c.begin_questions-builder.ensures.limits c.push_questions.ensures.limits) c.in-Err.field-0
    (subst (λ (cursor : Cursor). RefusesNext s cursor why.0 pushed c.in-Err.field-0) c.question.ensures why.1)
    c.header-header.result c.set_rcode.new.self c.header-header.ensures.built c.set_rcode.ensures
    (draft_of c.set_header.new.self) c.set_header.ensures.built (draft_of c.answer-in-Err.result) c.answer-in-Err.ensures.built

pub returns-in-Err-clause-stays : goal.returns-in-Err-clause-stays
returns-in-Err-clause-stays g c =
    g.met.Target.OctetsBuilder.stays_on _ _ _
    (g.met.Target.OctetsBuilder.stays_on _ _ _
    (g.met.Target.OctetsBuilder.stays_on _ _ _ c.begin_questions-builder.ensures.stays c.push_questions.ensures.stays) c.set_header.ensures.stays)
    c.answer-in-Err.ensures.stays
