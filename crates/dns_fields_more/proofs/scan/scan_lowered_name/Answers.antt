use Rattle.dns_fields_more.proofs.Scans.{lowered_scanned, no_lowered}
use Rattle.dns_fields_more.proofs.scan.scan_lowered_name.Goals as goal

pub returns-in-Ok-clause-ok : goal.returns-in-Ok-clause-ok
returns-in-Ok-clause-ok g c = lowered_scanned c.in-Ok.ensures.ok

pub returns-in-Err-clause-err : goal.returns-in-Err-clause-err
returns-in-Err-clause-err g c = λ short. no_lowered (c.in-Err.ensures.err short)
