use Rattle.dns_fields.proofs.ScanLeaves.{no_rest16}
use Rattle.dns_scan_data.proofs.row.LastRest16ScanRowInto.scan_fields_into.Goals as goal

pub returns-in-Err-clause-err : goal.returns-in-Err-clause-err
returns-in-Err-clause-err g c = λ short. no_rest16 _ _ (c.in-Err.ensures.err short)
