use Rattle.std.proofs.lemmas.Result.{err_from_is_err_and}
use Rattle.dns_zonefile.proofs.Directions.{ended}
use Rattle.dns_zonefile.proofs.Records.{not_all, not_headed, not_owned, not_scanned, says_record}
use Rattle.dns_zonefile.proofs.statement.scan_record.Goals as goal

pub returns-in_err-owner-clause-err : goal.returns-in_err-owner-clause-err
returns-in_err-owner-clause-err g c =
    let p = err_from_is_err_and c.from_residual.result c.from_residual.ensures.1 in
    rw (p.1, p.2) (λ short statement says. not_owned c.requires.bare (c.in_err-owner.ensures.err short) says)

pub returns-in_err-head-clause-err : goal.returns-in_err-head-clause-err
returns-in_err-head-clause-err g c =
    let p = err_from_is_err_and c.from_residual-in_err-head.result c.from_residual-in_err-head.ensures.1 in
    rw (p.1, p.2) (λ short statement says. not_headed c.requires.bare c.in_ok-owner.ensures.ok (c.in_err-head.ensures.err short) says)

pub returns-in_err-rdata-clause-err : goal.returns-in_err-rdata-clause-err
returns-in_err-rdata-clause-err g c =
    let p = err_from_is_err_and c.from_residual-in_err-rdata.result c.from_residual-in_err-rdata.ensures.1 in
    rw (p.1, p.2) (λ short statement says. not_scanned c.requires.bare c.in_ok-owner.ensures.ok c.in_ok-owner.ensures.names c.in_ok-head.ensures.ok c.in_ok-head.ensures.names
    c.requires.once (c.in_err-rdata.ensures.err short) says)

pub returns-then-continues-clause-err : goal.returns-then-continues-clause-err
returns-then-continues-clause-err g c =
    λ short statement says. not_all c.requires.bare c.in_ok-owner.ensures.ok c.in_ok-owner.ensures.names c.in_ok-head.ensures.ok c.in_ok-head.ensures.names
    c.requires.once _ _ c.in_ok-rdata.ensures.ok (c.continues.ensures.some.0 c.if-continues.true) says

pub returns-clause-ok : goal.returns-clause-ok
returns-clause-ok g c =
    says_record c.requires.bare c.in_ok-owner.ensures.ok c.in_ok-owner.ensures.names c.in_ok-head.ensures.ok c.in_ok-head.ensures.names _
    c.in_ok-rdata.ensures.ok (ended _ c.continues.ensures.some c.if-continues.false)
