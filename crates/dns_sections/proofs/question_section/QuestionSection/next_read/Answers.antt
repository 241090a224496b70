use Rattle.std.proofs.Common.{Some, subst}
use Rattle.dns_name.specs.ParsedName.{labels_of}
use Rattle.dns_header.specs.QuestionParts.{question_of}
use Rattle.dns_sections.specs.Given.{GivesQuestion, seen}
use Rattle.dns_sections.specs.Seen.{questions_at}
use Rattle.dns_sections.proofs.SameQuestions.{none-given, bad-given}
use Rattle.dns_sections.proofs.question_section.QuestionSection.next_read.Goals as goal

pub returns-in-Some-Ok-clause-some : goal.returns-in-Some-Ok-clause-some
returns-in-Some-Ok-clause-some c =
    subst (λ r. GivesQuestion (questions_at c.args.self.now) (seen (question_of labels_of) (Some r)) (questions_at c.next.new.self))
    c.in-Some-Ok.field-0-is c.in-Some-Ok.ensures.steps

pub returns-in-Some-Err-clause-none : goal.returns-in-Some-Err-clause-none
returns-in-Some-Err-clause-none c = λ question new gives.
    let bad = subst (λ r. GivesQuestion (questions_at c.args.self.now) (seen (question_of labels_of) (Some r)) (questions_at c.next.new.self))
    c.in-Some-Err.field-0-is c.in-Some-Err.ensures.steps in
    bad-given (questions_at c.args.self.now) (questions_at c.next.new.self) new question _ bad gives

pub returns-in-None-clause-none : goal.returns-in-None-clause-none
returns-in-None-clause-none c = λ question new gives.
    none-given (questions_at c.args.self.now) (questions_at c.next.new.self) new question c.in-None.ensures.steps gives
