use Rattle.std.proofs.Common.{arith}
use Rattle.dns_scan_data.proofs.Appending.{no_typed, typed_appended, typed_long}
use Rattle.dns_scan_data.proofs.typed.scan_row_into.Goals as goal

pub returns-else-len-gt65535-clause-ok : goal.returns-else-len-gt65535-clause-ok
returns-else-len-gt65535-clause-ok g c = typed_appended c.requires c.in-Ok.ensures.ok (omega arith)

pub returns-then-len-gt65535-clause-err : goal.returns-then-len-gt65535-clause-err
returns-then-len-gt65535-clause-err g c = λ short fits row left scans. typed_long c.requires c.in-Ok.ensures.ok (omega arith) fits

pub returns-in-Err-clause-err : goal.returns-in-Err-clause-err
returns-in-Err-clause-err g c = λ short. no_typed c.requires (c.in-Err.ensures.err short)
