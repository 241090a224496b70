use Rattle.std.proofs.Common.{◌≡◌, ◌∙◌, rules}
use Rattle.std.specs.Prelude.{Err}
use Rattle.dns_octets.specs.declared.error.AppendError.TheVariants.{ShortBuf}
use Rattle.dns_fields.proofs.Writing.{write-row, on_ok, past_first, past_row}
use Rattle.dns_fields.proofs.row.Tuple2Row.compose_fields.Goals as goal

pub returns-in_err-compose_field-clause-short : goal.returns-in_err-compose_field-clause-short
returns-in_err-compose_field-clause-short g c is =
    let refused : c.compose_field.result ≡ Err ShortBuf = search rules in
    past_first _ _ _ _ _ (c.compose_field.ensures.short refused)

pub returns-clause-ok : goal.returns-clause-ok
returns-clause-ok g c =
    on_ok c.compose_fields.result (λ there. there ∙ write-row _ _ _ _ _ c.in_ok-compose_field.ensures.ok) c.compose_fields.ensures.ok

pub returns-clause-short : goal.returns-clause-short
returns-clause-short g c is =
    past_row _ _ _ _ _ _ _ c.in_ok-compose_field.ensures.ok c.compose_field.ensures.same_bound (c.compose_fields.ensures.short is)
