use Rattle.std.proofs.lemmas.Result.{err_from_is_err_and}
use Rattle.dns_field_texts.proofs.LocationScans.{given_none, no_seconds}
use Rattle.dns_field_texts.proofs.location.scan.scan_seconds.Goals as goal

pub returns-in_err-angle-clause-err : goal.returns-in_err-angle-clause-err
returns-in_err-angle-clause-err g c =
    let p = err_from_is_err_and c.from_residual.result c.from_residual.ensures.1 in
    rw (p.1, p.2) (λ short left value has. c.in_err-angle.ensures.err short has.second has.behind has.takes)

pub returns-in_err-value-clause-err : goal.returns-in_err-value-clause-err
returns-in_err-value-clause-err g c =
    let p = err_from_is_err_and c.from_residual-in_err-value.result c.from_residual-in_err-value.ensures.1 in
    rw (p.1, p.2) (λ short. no_seconds c.in_ok-angle.ensures.ok (c.in_err-value.ensures.err short).0)

pub returns-in-None-clause-err : goal.returns-in-None-clause-err
returns-in-None-clause-err g c = λ short. no_seconds c.in_ok-angle.ensures.ok (given_none c.in-None.is c.in_ok-value.ensures.none).1
