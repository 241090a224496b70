use Rattle.std.proofs.lemmas.Result.{err_from_is_err_and}
use Rattle.dns_entry_scanner.proofs.Heads.{no_word, ttl_behind}
use Rattle.dns_entry_scanner.proofs.record_head.scan_ttl_and_type.Goals as goal

pub returns-in_err-ttl-clause-err : goal.returns-in_err-ttl-clause-err
returns-in_err-ttl-clause-err g c =
    let p = err_from_is_err_and c.from_residual.result c.from_residual.ensures.1 in
    rw (p.1, p.2) (λ short ttl rtype left head. no_word (c.in_err-ttl.ensures.err short) head)

pub returns-in_err-scan_type-in-Ttl-clause-err : goal.returns-in_err-scan_type-in-Ttl-clause-err
returns-in_err-scan_type-in-Ttl-clause-err g c =
    let p = err_from_is_err_and c.from_residual-in_err-scan_type-in-Ttl.result c.from_residual-in_err-scan_type-in-Ttl.ensures.1 in
    rw (p.1, p.2) (λ short ttl rtype left head. c.in_err-scan_type-in-Ttl.ensures.err short rtype left (ttl_behind c.in-Ttl.is c.in_ok-ttl.ensures.ok head))
