use Rattle.std.proofs.Common.{rules}
use Rattle.dns_header.specs.QuestionText.AsksFor.{class_first, type_first, type_alone}
use Rattle.dns_header.specs.QuestionText.AsksForNone.{no_word, no_type, class_and_no_type, neither, type_and_no_class}
use Rattle.dns_header.proofs.question.from_str.asked.Goals as goal

pub returns-in_default-clause-err : goal.returns-in_default-clause-err
returns-in_default-clause-err c = no_word c.in_default.ensures.none

pub returns-in_default-next_word-clause-err : goal.returns-in_default-next_word-clause-err
returns-in_default-next_word-clause-err c = no_type {qclass = c.in-Some-from_bytes.qclass} c.in-Some.ensures.some (search rules) c.in_default-next_word.ensures.none

pub returns-in-Some-from_bytes-2-clause-ok : goal.returns-in-Some-from_bytes-2-clause-ok
returns-in-Some-from_bytes-2-clause-ok c = class_first c.in-Some.ensures.some (search rules) c.in-Some-next_word.ensures.some (search rules)

pub returns-in-None-clause-err : goal.returns-in-None-clause-err
returns-in-None-clause-err c = class_and_no_type {qclass = c.in-Some-from_bytes.qclass} c.in-Some.ensures.some (search rules) c.in-Some-next_word.ensures.some (search rules)

pub returns-in_default-from_bytes-2-clause-err : goal.returns-in_default-from_bytes-2-clause-err
returns-in_default-from_bytes-2-clause-err c = neither c.in-Some.ensures.some (search rules) (search rules)

pub returns-in_default-next_word-2-clause-ok : goal.returns-in_default-next_word-2-clause-ok
returns-in_default-next_word-2-clause-ok c =
    type_alone c.in-Some.ensures.some (search rules) (search rules) c.in_default-next_word-2.ensures.none

pub returns-in-Some-from_bytes-4-clause-ok : goal.returns-in-Some-from_bytes-4-clause-ok
returns-in-Some-from_bytes-4-clause-ok c =
    type_first c.in-Some.ensures.some (search rules) (search rules) c.in-Some-next_word-2.ensures.some (search rules)

pub returns-in-None-from_bytes-clause-err : goal.returns-in-None-from_bytes-clause-err
returns-in-None-from_bytes-clause-err c =
    type_and_no_class {qtype = c.in-Some-from_bytes-3.qtype} c.in-Some.ensures.some (search rules) (search rules) c.in-Some-next_word-2.ensures.some (search rules)
