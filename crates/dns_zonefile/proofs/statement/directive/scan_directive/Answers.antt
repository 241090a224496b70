use Rattle.std.proofs.lemmas.Result.{err_from_is_err_and}
use Rattle.dns_zonefile.proofs.Directions.{directs_by, ended, not_argued}
use Rattle.dns_zonefile.proofs.statement.directive.scan_directive.Goals as goal

pub returns-in_err-statement-clause-err : goal.returns-in_err-statement-clause-err
returns-in_err-statement-clause-err g c =
    let p = err_from_is_err_and c.from_residual.result c.from_residual.ensures.1 in
    rw (p.1, p.2) (λ short statement directs. not_argued c.skip_token.ensures.names c.in-Some.ensures.some c.skip_token.ensures.taken
    (c.in_err-statement.ensures.err short) directs)

pub returns-clause-ok : goal.returns-clause-ok
returns-clause-ok g c =
    directs_by c.skip_token.ensures.names c.requires c.in-Some.ensures.some c.skip_token.ensures.taken c.in_ok-statement.ensures.ok
    (ended _ c.continues.ensures.some c.if-continues.false)
