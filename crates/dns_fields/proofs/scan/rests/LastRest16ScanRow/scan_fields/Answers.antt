use Rattle.std.proofs.lemmas.Result.{err_from_is_err_and}
use Rattle.dns_fields.proofs.ScanLeaves.{no_rest16}
use Rattle.dns_fields.proofs.scan.rests.LastRest16ScanRow.scan_fields.Goals as goal

pub returns-in_err-scan_entry-clause-err : goal.returns-in_err-scan_entry-clause-err
returns-in_err-scan_entry-clause-err g c =
    let p = err_from_is_err_and c.from_residual.result c.from_residual.ensures.1 in
    rw (p.1, p.2) (λ short. no_rest16 _ _ (c.in_err-scan_entry.ensures.err short))
