use Rattle.std.specs.Prelude.{Some}
use Rattle.dns_header.specs.Head.{NoWhole, WholeIsCut}
use Rattle.dns_header.specs.ParsedRecord.{HoldsRecord}
use Rattle.dns_header.specs.Question.{ReadsQuestion}
use Rattle.dns_sections.specs.Questions.{NoQuestion, QuestionIsCut}
use Rattle.dns_sections.proofs.Ends.{asked-falls, all-falls}
use Rattle.dns_sections.proofs.Steps.{falls}
use Rattle.dns_sections.proofs.laws.question_and_record_cursors_end.Goals as goal

pub returns-clause-questions : goal.returns-clause-questions
returns-clause-questions g c = λ old new result. falls ReadsQuestion NoQuestion QuestionIsCut old new (Some result)

pub returns-clause-records : goal.returns-clause-records
returns-clause-records g c = λ old new result. falls HoldsRecord NoWhole WholeIsCut old new (Some result)

pub returns-clause-taken : goal.returns-clause-taken
returns-clause-taken g c = λ in_only old new result gives. asked-falls gives

pub returns-clause-any : goal.returns-clause-any
returns-clause-any g c = λ old new result gives. asked-falls gives

pub returns-clause-all : goal.returns-clause-all
returns-clause-all g c = λ old new result gives. all-falls gives
