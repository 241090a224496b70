use Rattle.dns_fields_more.proofs.Scans.{no_types, types_scanned}
use Rattle.dns_fields_more.proofs.scan.scan_types.Goals as goal

pub returns-in-Ok-clause-ok : goal.returns-in-Ok-clause-ok
returns-in-Ok-clause-ok g c = types_scanned c.in-Ok.ensures.ok

pub returns-in-Err-clause-err : goal.returns-in-Err-clause-err
returns-in-Err-clause-err g c = λ short. no_types (c.in-Err.ensures.err short)
