use Rattle.std.proofs.Common.{arith}
use Rattle.dns_fields_more.proofs.Scans.{base64_scanned, empty_base64, no_rest64}
use Rattle.dns_fields_more.proofs.scan.scan_base64.Goals as goal

pub returns-in-Err-clause-err : goal.returns-in-Err-clause-err
returns-in-Err-clause-err g c = λ short. no_rest64 (c.in-Err.ensures.err short)

pub returns-then-len-before-clause-err : goal.returns-then-len-before-clause-err
returns-then-len-before-clause-err g c = λ short. let same = c.if-len-before.true in empty_base64 c.in-Ok.ensures.ok (omega (arith, same))

pub returns-clause-ok : goal.returns-clause-ok
returns-clause-ok g c = let differs = c.if-len-before.false in base64_scanned c.in-Ok.ensures.ok (λ same. omega (arith, differs, same))
