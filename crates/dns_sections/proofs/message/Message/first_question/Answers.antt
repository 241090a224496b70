use Rattle.std.proofs.Common.{Some, subst}
use Rattle.dns_name.specs.ParsedName.{labels_of}
use Rattle.dns_header.specs.QuestionParts.{question_of}
use Rattle.dns_sections.specs.Given.{GivesQuestion, seen}
use Rattle.dns_sections.specs.Message.{octets_in}
use Rattle.dns_sections.specs.Seen.{questions_at}
use Rattle.dns_sections.proofs.First.{first-is, first-none, first-bad}
use Rattle.dns_sections.proofs.message.Message.first_question.Goals as goal

pub returns-in-Some-Ok-clause-some : goal.returns-in-Some-Ok-clause-some
returns-in-Some-Ok-clause-some g c =
    let gives = subst (λ r. GivesQuestion (questions_at c.question.result) (seen (question_of labels_of) (Some r)) (questions_at c.next.new.self))
    c.in-Some-Ok.field-0-is c.in-Some-Ok.ensures.steps in
    first-is (octets_in g.Octs.Octets.list c.args.self.now) (questions_at c.question.result) (questions_at c.next.new.self) c.question.ensures
    (question_of labels_of c.in-Some-Ok.question) gives

pub returns-in-Some-Err-clause-none : goal.returns-in-Some-Err-clause-none
returns-in-Some-Err-clause-none g c =
    let gives = subst (λ r. GivesQuestion (questions_at c.question.result) (seen (question_of labels_of) (Some r)) (questions_at c.next.new.self))
    c.in-Some-Err.field-0-is c.in-Some-Err.ensures.steps in
    first-bad (octets_in g.Octs.Octets.list c.args.self.now) (questions_at c.question.result) (questions_at c.next.new.self) c.question.ensures
    _ gives

pub returns-in-None-clause-none : goal.returns-in-None-clause-none
returns-in-None-clause-none g c =
    first-none (octets_in g.Octs.Octets.list c.args.self.now) (questions_at c.question.result) (questions_at c.next.new.self) c.question.ensures
    c.in-None.ensures.steps
