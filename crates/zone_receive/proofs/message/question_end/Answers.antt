use Rattle.std.proofs.Common.{◌∙◌, arith}
use Rattle.dns_name.specs.ParsedName.{labels_of}
use Rattle.dns_header.specs.QuestionParts.{question_of}
use Rattle.zone_receive.specs.Asked.{asked_of}
use Rattle.zone_core.proofs.Questions.{asks_not, asks_once, asks_other}
use Rattle.zone_receive.proofs.message.question_end.Goals as goal

pub returns-in_default-clause-none : goal.returns-in_default-clause-none
returns-in_default-clause-none c =
    asks_not (asked_of c.args.query.now) c.args.is_first c.args.message.now (λ is. c.if-questions_in-eq0.false (c.questions_in.ensures ∙ is))
    (λ q next reads is. c.in_default.ensures.err q next reads)

pub returns-then-is_question_of-clause-some : goal.returns-then-is_question_of-clause-some
returns-then-is_question_of-clause-some c =
    asks_once (asked_of c.args.query.now) c.args.is_first c.args.message.now c.in-Ok.end (question_of labels_of c.in-Ok.question) c.requires.header
    (λ is. c.if-questions_in-eq0.false (c.questions_in.ensures ∙ is)) c.in-Ok.ensures.ok
    (c.is_question_of.ensures.0 c.if-is_question_of.true)

pub returns-then-is_question_of-clause-within : goal.returns-then-is_question_of-clause-within
returns-then-is_question_of-clause-within c =
    let reads = c.in-Ok.ensures.ok in omega (arith, reads.whole, reads.ends)

pub returns-else-is_question_of-clause-none : goal.returns-else-is_question_of-clause-none
returns-else-is_question_of-clause-none c =
    asks_other (asked_of c.args.query.now) c.args.is_first c.args.message.now c.in-Ok.end (question_of labels_of c.in-Ok.question)
    (λ is. c.if-questions_in-eq0.false (c.questions_in.ensures ∙ is)) c.in-Ok.ensures.ok
    (λ is. let yes = c.is_question_of.ensures.1 is in let no = c.if-is_question_of.false in absurd cc)
