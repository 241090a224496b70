use Rattle.std.specs.Cmp.{on_total}
use Rattle.dns_header.specs.QuestionLaws.{questions_alike, questions_ties, questions_total}
use Rattle.dns_header.specs.QuestionParts.{question_of}
use Rattle.dns_header.proofs.laws.question_orders_by_name_type_class.Goals as goal

pub returns-clause-total : goal.returns-clause-total
returns-clause-total g c = on_total (question_of g.N.ToName.name) questions_total

pub returns-clause-equality : goal.returns-clause-equality
returns-clause-equality g c =
    questions_ties (question_of g.N.ToName.name c.args.question.now) (question_of g.N.ToName.name c.args.other.now)

pub returns-clause-hash : goal.returns-clause-hash
returns-clause-hash g c =
    questions_alike (question_of g.N.ToName.name c.args.question.now) (question_of g.N.ToName.name c.args.other.now)
