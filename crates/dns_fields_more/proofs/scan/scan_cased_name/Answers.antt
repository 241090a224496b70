use Rattle.dns_fields_more.proofs.Scans.{cased_scanned, no_cased}
use Rattle.dns_fields_more.proofs.scan.scan_cased_name.Goals as goal

pub returns-in-Ok-clause-ok : goal.returns-in-Ok-clause-ok
returns-in-Ok-clause-ok g c = cased_scanned c.in-Ok.ensures.ok

pub returns-in-Err-clause-err : goal.returns-in-Err-clause-err
returns-in-Err-clause-err g c = λ short. no_cased (c.in-Err.ensures.err short)
