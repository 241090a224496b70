use Rattle.std.proofs.Common.{List, ℕ, subst}
use Rattle.dns_builder.specs.Answering.{AnswersHeader}
use Rattle.dns_builder.specs.Seen.{draft_of}
use Rattle.dns_builder.specs.Steps.{going_to}
use Rattle.dns_builder.proofs.Begun.{begins}
use Rattle.dns_builder.proofs.builder.answer.SectionBuilder+Target+Start.begin_questions.Goals as goal

pub returns-clause-built : goal.returns-clause-built
returns-clause-built g c built is =
    let asks = c.question-builder.ensures.built built is in
    begins g.Target.Composer.spelling c.args.query c.args.rcode built (draft_of c.args.self) _ c.answer_header.result is c.args.self.begun
    (subst (λ (old : List ℕ). AnswersHeader c.args.query c.args.rcode old c.answer_header.result) (c.header.ensures.built (going_to 1 built) asks)
    c.answer_header.ensures)
    (c.set_header.ensures.built (going_to 1 built) asks)

pub returns-clause-stays : goal.returns-clause-stays
returns-clause-stays g c = g.met.Target.OctetsBuilder.stays_on _ _ _ c.question-builder.ensures.stays c.set_header.ensures.stays
