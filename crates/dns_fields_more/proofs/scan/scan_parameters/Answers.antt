use Rattle.dns_fields_more.proofs.Scans.{no_parameters, parameters_scanned}
use Rattle.dns_fields_more.proofs.scan.scan_parameters.Goals as goal

pub returns-in-Ok-clause-ok : goal.returns-in-Ok-clause-ok
returns-in-Ok-clause-ok g c = parameters_scanned c.in-Ok.ensures.ok

pub returns-in-Err-clause-err : goal.returns-in-Err-clause-err
returns-in-Err-clause-err g c = λ short. no_parameters (c.in-Err.ensures.err short)
