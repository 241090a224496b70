use Rattle.dns_message.proofs.AnswerHeaders.{answer_length, says_fields, says_counts, is_answer_header}
use Rattle.dns_message.proofs.laws.answer_header_is_its_fields.Goals as goal

pub returns-clause-there : goal.returns-clause-there
returns-clause-there c = λ id recursion answers small few.
    (answer_length id recursion answers, says_fields id recursion answers small, says_counts id recursion answers few)

pub returns-clause-back : goal.returns-clause-back
returns-clause-back c = is_answer_header
