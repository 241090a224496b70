use Rattle.dns_entry_scanner.proofs.HandedOn.{handed_on}
use Rattle.dns_zonefile.proofs.Directions.{ended}
use Rattle.zone_general.proofs.RowData.{all_scanned, none_left, none_scanned}
use Rattle.zone_general.proofs.row_data.scan_fields.Goals as goal

pub returns-in_err-scan_further_into-clause-err : goal.returns-in_err-scan_further_into-clause-err
returns-in_err-scan_further_into-clause-err c =
    handed_on c.from_residual.result c.in_err-scan_further_into.field-0.0 _ c.from_residual.ensures.1
    (λ real. none_scanned c.from_int.ensures (c.in_err-scan_further_into.ensures.err real))

pub returns-then-continues-clause-err : goal.returns-then-continues-clause-err
returns-then-continues-clause-err c =
    λ real. none_left c.from_int.ensures c.in_ok-scan_further_into.ensures.ok (c.continues.ensures.some.0 c.if-continues.true)

pub returns-clause-ok : goal.returns-clause-ok
returns-clause-ok c =
    all_scanned c.from_int.ensures c.in_ok-scan_further_into.ensures.ok (ended _ c.continues.ensures.some c.if-continues.false)
