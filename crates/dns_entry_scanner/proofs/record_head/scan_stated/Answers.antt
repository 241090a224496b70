use Rattle.std.proofs.Common.{◌<◌, arith}
use Rattle.std.proofs.lemmas.Result.{err_from_is_err_and}
use Rattle.dns_entry_scanner.proofs.Heads.{no_class_second, no_first, no_ttl_second}
use Rattle.dns_entry_scanner.proofs.record_head.scan_stated.Goals as goal

pub returns-in_err-ttl-in-1-clause-err : goal.returns-in_err-ttl-in-1-clause-err
returns-in_err-ttl-in-1-clause-err g c =
    let p = err_from_is_err_and c.from_residual.result c.from_residual.ensures.1 in
    let some : 0 < c.args.count = omega arith in
    rw (p.1, p.2) (λ short ttl class states. no_first c.args.count some c.requires (c.in_err-ttl-in-1.ensures.err short) states)

pub returns-in_err-ttl-in-2-clause-err : goal.returns-in_err-ttl-in-2-clause-err
returns-in_err-ttl-in-2-clause-err g c =
    let p = err_from_is_err_and c.from_residual-in_err-ttl-in-2.result c.from_residual-in_err-ttl-in-2.ensures.1 in
    let some : 0 < c.args.count = omega arith in
    rw (p.1, p.2) (λ short ttl class states. no_first c.args.count some c.requires (c.in_err-ttl-in-2.ensures.err short) states)

pub returns-in_err-scan_class-in-Ttl-2-clause-err : goal.returns-in_err-scan_class-in-Ttl-2-clause-err
returns-in_err-scan_class-in-Ttl-2-clause-err g c =
    let p = err_from_is_err_and c.from_residual-in_err-scan_class-in-Ttl-2.result c.from_residual-in_err-scan_class-in-Ttl-2.ensures.1 in
    rw (p.1, p.2)
    (λ short ttl class states. no_class_second c.args.count c.in-2.is c.requires c.in-Ttl-2.is c.in_ok-ttl-in-2.ensures.ok (c.in_err-scan_class-in-Ttl-2.ensures.err short) states)

pub returns-in_err-scan_ttl-in-Class-2-clause-err : goal.returns-in_err-scan_ttl-in-Class-2-clause-err
returns-in_err-scan_ttl-in-Class-2-clause-err g c =
    let p = err_from_is_err_and c.from_residual-in_err-scan_ttl-in-Class-2.result c.from_residual-in_err-scan_ttl-in-Class-2.ensures.1 in
    rw (p.1, p.2)
    (λ short ttl class states. no_ttl_second c.args.count c.in-2.is c.requires c.in-Class-2.is c.in_ok-ttl-in-2.ensures.ok (c.in_err-scan_ttl-in-Class-2.ensures.err short) states)
