use Rattle.dns_fields_more.proofs.Scans.{location_scanned, no_location}
use Rattle.dns_fields_more.proofs.scan.scan_location.Goals as goal

pub returns-in-Ok-clause-ok : goal.returns-in-Ok-clause-ok
returns-in-Ok-clause-ok g c = location_scanned c.in-Ok.ensures.ok

pub returns-in-Err-clause-err : goal.returns-in-Err-clause-err
returns-in-Err-clause-err g c = λ short. no_location (c.in-Err.ensures.err short)
