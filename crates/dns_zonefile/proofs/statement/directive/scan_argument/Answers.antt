use Rattle.std.proofs.lemmas.Result.{err_from_is_err_and}
use Rattle.dns_zonefile.proofs.Directions.{no_seconds}
use Rattle.dns_zonefile.proofs.statement.directive.scan_argument.Goals as goal

pub returns-in_err-scan-in-Ttl-clause-err : goal.returns-in_err-scan-in-Ttl-clause-err
returns-in_err-scan-in-Ttl-clause-err g c =
    let p = err_from_is_err_and c.from_residual-in_err-scan-in-Ttl.result c.from_residual-in_err-scan-in-Ttl.ensures.1 in
    rw (p.1, p.2) (λ short statement left argues. no_seconds c.in-Ttl.is (c.in_err-scan-in-Ttl.ensures.err short) argues)
