use Rattle.std.proofs.lemmas.Result.{err_from_is_err_and}
use Rattle.dns_scan.proofs.encoding.decoder.Decoder.finalize.Goals as goal

pub returns-in_err-finish-clause-short : goal.returns-in_err-finish-clause-short
returns-in_err-finish-clause-short g c =
    let p = err_from_is_err_and c.from_residual.result c.from_residual.ensures.1 in
    rw (p.1, p.2) c.in_err-finish.ensures.short

pub returns-clause-ok : goal.returns-clause-ok
returns-clause-ok g c = rw c.freeze.ensures c.in_ok-finish.ensures.ok
