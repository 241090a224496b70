use Rattle.dns_message.proofs.SpelledQuestions.{question_spelled, question_read}
use Rattle.dns_message.proofs.laws.questions_have_one_meaning.Goals as goal

pub returns-clause-there : goal.returns-clause-there
returns-clause-there c = question_spelled

pub returns-clause-back : goal.returns-clause-back
returns-clause-back c = question_read
