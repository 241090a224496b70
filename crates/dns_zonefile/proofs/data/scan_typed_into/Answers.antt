use Rattle.std.proofs.Common.{refl}
use Rattle.dns_rdata.proofs.ScanAny.{none_typed}
use Rattle.dns_zonefile.proofs.AppendedData.{data_typed}
use Rattle.dns_zonefile.proofs.data.scan_typed_into.Goals as goal

pub returns-in-Ok-clause-ok : goal.returns-in-Ok-clause-ok
returns-in-Ok-clause-ok g c = data_typed c.requires c.in-Ok.ensures.ok

pub returns-in-Err-clause-err : goal.returns-in-Err-clause-err
returns-in-Err-clause-err g c = λ short. none_typed _ _ _ _ refl c.requires (c.in-Err.ensures.err short)
