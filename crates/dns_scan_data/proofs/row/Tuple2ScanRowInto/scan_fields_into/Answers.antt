use Rattle.dns_fields.proofs.ScanParts.{no_first}
use Rattle.dns_scan_data.proofs.Appending.{no_back, row_appended}
use Rattle.dns_scan_data.proofs.row.Tuple2ScanRowInto.scan_fields_into.Goals as goal

pub returns-in-Ok-scan_fields_into-clause-ok : goal.returns-in-Ok-scan_fields_into-clause-ok
returns-in-Ok-scan_fields_into-clause-ok g c =
    row_appended c.scan_field_into.ensures.names c.in-Ok.ensures.ok c.in-Ok-scan_fields_into.ensures.ok

pub returns-in-Err-scan_fields_into-clause-err : goal.returns-in-Err-scan_fields_into-clause-err
returns-in-Err-scan_fields_into-clause-err g c = λ short.
    no_back c.scan_field_into.ensures.names c.in-Ok.ensures.ok (c.in-Err-scan_fields_into.ensures.err short)

pub returns-in-Err-clause-err : goal.returns-in-Err-clause-err
returns-in-Err-clause-err g c = λ short. no_first _ _ _ _ (c.in-Err.ensures.err short)
