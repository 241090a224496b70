use Rattle.dns_zonefile.specs.Statement.Says.{resource}
use Rattle.dns_zonefile.proofs.OneStatement.{statement_has_tokens}
use Rattle.zone.proofs.UnknownForms.{some_form}
use Rattle.zone.proofs.UnknownRows.{into, unknown_says, out_of}
use Rattle.zone.proofs.OtherRows.{row_replaced}
use Rattle.zone.proofs.laws.unknown.unknown_data_is_the_same.Goals as goal

pub returns-clause-some : goal.returns-clause-some
returns-clause-some c = λ origin row stated says are. some_form says are

pub returns-clause-into : goal.returns-clause-into
returns-clause-into c = λ text other origin class records has.
    row_replaced has.row has.other_row (statement_has_tokens (resource has.form.says)) (into has.context has.form) has.are has.text_begins
    has.other_begins

pub returns-clause-out_of : goal.returns-clause-out_of
returns-clause-out_of c = λ text other origin class records has.
    row_replaced has.other_row has.row (statement_has_tokens (resource (unknown_says has.form))) (out_of has.context has.form) has.are
    has.other_begins has.text_begins
