use Rattle.std.proofs.Common.{◌∙◌, refl, arith}
use Rattle.dns_header.specs.Question.{Question}
use Rattle.zone_records.specs.Zone.{axfr_type}
use Rattle.zone_core.specs.Asked.{asked_by}
use Rattle.zone_send.proofs.SpelledPushes.{unasked, question_is, unasked_large, asked}
use Rattle.zone_send.proofs.sending.spelled.Answer.begin.Goals as goal

pub returns-then-not-branch : goal.returns-then-not-branch
returns-then-not-branch g c = λ item.
    let answer = c.args.self.now in
    let query = asked_by answer.query.now in
    let q : Question = record { name = c.for_ref.result; qtype = axfr_type; qclass = c.class.result } in
    unasked_large item q c.in_ok-was_taken.field-0 c.push.result
    (unasked query c.header_of.result c.in_ok-builder_over.ensures.built c.in_ok-builder_over.ensures.bound answer.small
    (omega (arith, c.from.ensures)) c.question-builder.ensures.built c.question-builder.ensures.limits c.set_push_limit.ensures.draft
    c.set_header.ensures.built c.set_header.ensures.limits c.header_of.ensures)
    (question_is query q (c.for_ref.ensures ∙ answer.asked) refl c.class.ensures) c.push.ensures.why c.if-not-branch.true
    c.in_ok-was_taken.ensures.no

pub returns : goal.returns
returns g c = λ item.
    let answer = c.args.self.now in
    let query = asked_by answer.query.now in
    let q : Question = record { name = c.for_ref.result; qtype = axfr_type; qclass = c.class.result } in
    asked item q c.in_ok-was_taken.field-0 c.push.result
    (unasked query c.header_of.result c.in_ok-builder_over.ensures.built c.in_ok-builder_over.ensures.bound answer.small
    (omega (arith, c.from.ensures)) c.question-builder.ensures.built c.question-builder.ensures.limits c.set_push_limit.ensures.draft
    c.set_header.ensures.built c.set_header.ensures.limits c.header_of.ensures)
    (question_is query q (c.for_ref.ensures ∙ answer.asked) refl c.class.ensures) c.push.ensures.ok c.push.ensures.limits c.if-not-branch.false
    c.in_ok-was_taken.ensures.yes c.answer.ensures.built c.answer.ensures.limits
