use Rattle.std.proofs.Common.{subst}
use Rattle.std.specs.Str.{IsAscii, IsNotAscii}
use Rattle.std.proofs.lemmas.Result.{err_from_is_err_and}
use Rattle.dns_zonefile.proofs.Directions.{ended, no_octets, no_origin_later, not_ascii, origin_later, path_alone}
use Rattle.dns_zonefile.proofs.statement.directive.scan_file.Goals as goal

pub returns-in_err-path-clause-err : goal.returns-in_err-path-clause-err
returns-in_err-path-clause-err g c =
    let p = err_from_is_err_and c.from_residual.result c.from_residual.ensures.1 in
    rw (p.1, p.2) (λ short statement left argues. no_octets argues (c.in_err-path.ensures.err short))

pub returns-then-not-is_ascii-clause-err : goal.returns-then-not-is_ascii-clause-err
returns-then-not-is_ascii-clause-err g c =
    λ short statement left argues. not_ascii argues c.in_ok-path.ensures.ok (subst IsNotAscii c.deref.ensures c.if-not-is_ascii.ensures.cases)

pub returns-then-not-continues-clause-ok : goal.returns-then-not-continues-clause-ok
returns-then-not-continues-clause-ok g c =
    path_alone c.in-Some.ensures.some.1 c.in_ok-path.ensures.ok (subst IsAscii c.deref.ensures c.if-not-is_ascii.ensures.cases)
    (ended _ c.continues.ensures.some c.if-not-continues.true) c.continues.ensures.stays

pub returns-in_err-origin-clause-err : goal.returns-in_err-origin-clause-err
returns-in_err-origin-clause-err g c =
    let p = err_from_is_err_and c.from_residual-in_err-origin.result c.from_residual-in_err-origin.ensures.1 in
    rw (p.1, p.2) (λ short statement left argues. no_origin_later c.in_ok-path.ensures.names c.continues.ensures.names c.continues.ensures.stays
    c.in_ok-path.ensures.ok (c.continues.ensures.some.0 c.if-not-continues.false) (c.in_err-origin.ensures.err short) argues)

pub returns-clause-ok : goal.returns-clause-ok
returns-clause-ok g c =
    origin_later c.in_ok-path.ensures.names c.continues.ensures.names c.continues.ensures.stays c.in-Some.ensures.some.1
    c.in_ok-path.ensures.ok (subst IsAscii c.deref.ensures c.if-not-is_ascii.ensures.cases) c.in_ok-origin.ensures.ok
