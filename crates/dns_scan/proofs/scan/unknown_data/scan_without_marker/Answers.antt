use Rattle.std.proofs.lemmas.Result.{err_from_is_err_and}
use Rattle.dns_scan.proofs.scan.unknown_data.scan_without_marker.Goals as goal

pub returns-in_err-octets-clause-err : goal.returns-in_err-octets-clause-err
returns-in_err-octets-clause-err g c =
    let p = err_from_is_err_and c.from_residual.result c.from_residual.ensures.1 in rw (p.1, p.2) c.in_err-octets.ensures.err
