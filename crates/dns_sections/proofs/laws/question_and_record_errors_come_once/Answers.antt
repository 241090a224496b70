use Rattle.dns_header.specs.Head.{NoWhole, WholeIsCut}
use Rattle.dns_header.specs.ParsedRecord.{HoldsRecord}
use Rattle.dns_header.specs.Question.{ReadsQuestion}
use Rattle.dns_sections.specs.Questions.{NoQuestion, QuestionIsCut}
use Rattle.dns_sections.proofs.Ends.{spent-by-error, spent-for-good, error-ends, ended-gives-none}
use Rattle.dns_sections.proofs.laws.question_and_record_errors_come_once.Goals as goal

pub returns-clause-question_error : goal.returns-clause-question_error
returns-clause-question_error c = spent-by-error ReadsQuestion NoQuestion QuestionIsCut

pub returns-clause-record_error : goal.returns-clause-record_error
returns-clause-record_error c = spent-by-error HoldsRecord NoWhole WholeIsCut

pub returns-clause-question_end : goal.returns-clause-question_end
returns-clause-question_end c = spent-for-good ReadsQuestion NoQuestion QuestionIsCut

pub returns-clause-record_end : goal.returns-clause-record_end
returns-clause-record_end c = spent-for-good HoldsRecord NoWhole WholeIsCut

pub returns-clause-all_error : goal.returns-clause-all_error
returns-clause-all_error c = λ old mid new error result first next. error-ends first next

pub returns-clause-all_end : goal.returns-clause-all_end
returns-clause-all_end c = λ new result gives. ended-gives-none gives
