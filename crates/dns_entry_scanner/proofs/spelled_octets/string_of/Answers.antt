use Rattle.std.proofs.Common.{ℕ, length, ap, arith}
use Rattle.std.proofs.lemmas.Result.{err_from_is_err_and}
use Rattle.dns_scan.proofs.TextsBack.{spells_one}
use Rattle.dns_entry_scanner.proofs.spelled_octets.string_of.Goals as goal

pub returns-in-Err-clause-err : goal.returns-in-Err-clause-err
returns-in-Err-clause-err c = λ short string is.
    let same = spells_one _ _ string c.in_ok-octets.ensures.ok is.spells in
    let few = is.short in
    let bad = c.in-Err.ensures.short.1 (omega (arith, few, ap (length {A = ℕ}) same)) in cc

pub returns-in_err-octets-clause-err : goal.returns-in_err-octets-clause-err
returns-in_err-octets-clause-err c =
    let p = err_from_is_err_and c.from_residual.result c.from_residual.ensures.1 in
    rw (p.1, p.2) (λ short string is. c.in_err-octets.ensures.err short string is.spells)
