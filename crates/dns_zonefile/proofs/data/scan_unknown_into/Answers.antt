use Rattle.dns_rdata.proofs.ScanAny.{none_unknown}
use Rattle.dns_zonefile.proofs.AppendedData.{data_unknown}
use Rattle.dns_zonefile.proofs.data.scan_unknown_into.Goals as goal

pub returns-in-Ok-clause-ok : goal.returns-in-Ok-clause-ok
returns-in-Ok-clause-ok g c =
    let has = c.in-Ok.ensures.ok in data_unknown _ _ _ _ _ _ has.0 has.1 has.2 has.3 has.4

pub returns-in-Err-clause-err : goal.returns-in-Err-clause-err
returns-in-Err-clause-err g c = λ short fits. none_unknown _ _ _ (c.in-Err.ensures.err short)
