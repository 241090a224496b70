use Rattle.std.proofs.Common.{[], refl, sym}
use Rattle.dns_entry_scanner.proofs.HandedOn.{handed_on}
use Rattle.dns_zonefile.proofs.Forms.{if_err_each, if_ok_each, says_under, unentered, value_is_given}
use Rattle.dns_zonefile.proofs.entry_form.values.AsValuesEntryForm.take_row.Goals as goal

pub returns-in_err-statement-clause-err : goal.returns-in_err-statement-clause-err
returns-in_err-statement-clause-err c =
    handed_on c.from_residual.result c.in_err-statement.field-0.0 _ c.from_residual.ensures.1 (λ real entry after is.
    c.in_err-statement.ensures.err real is.statement (says_under (sym c.as_ref-origin.ensures.value) refl is.says))

pub returns-clause-ok : goal.returns-clause-ok
returns-clause-ok c =
    if_ok_each c.enter.result _ _ (λ entry enters. (
      _,
      record { statement = _; says = says_under c.as_ref-origin.ensures.value refl c.in_ok-statement.ensures.ok; enters = enters },
      value_is_given _ entry [],
    )) c.enter.ensures.ok

pub returns-clause-err : goal.returns-clause-err
returns-clause-err c =
    if_err_each c.enter.result _ _ (λ error none real.
    unentered (says_under c.as_ref-origin.ensures.value refl c.in_ok-statement.ensures.ok) (none real)) c.enter.ensures.err
