use Rattle.std.proofs.lemmas.Result.{err_from_is_err_and}
use Rattle.dns_entry_scanner.proofs.Heads.{no_word, ttl_behind, class_behind}
use Rattle.dns_entry_scanner.proofs.record_head.scan_head.Goals as goal

pub returns-in_err-ttl-clause-err : goal.returns-in_err-ttl-clause-err
returns-in_err-ttl-clause-err g c =
    let p = err_from_is_err_and c.from_residual.result c.from_residual.ensures.1 in
    rw (p.1, p.2) (λ short ttl class rtype left head. no_word (c.in_err-ttl.ensures.err short) head)

pub returns-in_err-class-in-Ttl-clause-err : goal.returns-in_err-class-in-Ttl-clause-err
returns-in_err-class-in-Ttl-clause-err g c =
    let p = err_from_is_err_and c.from_residual-in_err-class-in-Ttl.result c.from_residual-in_err-class-in-Ttl.ensures.1 in
    rw (p.1, p.2) (λ short ttl class rtype left head. c.in_err-class-in-Ttl.ensures.err short class rtype left (ttl_behind c.in-Ttl.is c.in_ok-ttl.ensures.ok head))

pub returns-in_err-ttl-in-Class-clause-err : goal.returns-in_err-ttl-in-Class-clause-err
returns-in_err-ttl-in-Class-clause-err g c =
    let p = err_from_is_err_and c.from_residual-in_err-ttl-in-Class.result c.from_residual-in_err-ttl-in-Class.ensures.1 in
    rw (p.1, p.2) (λ short ttl class rtype left head. c.in_err-ttl-in-Class.ensures.err short ttl rtype left (class_behind c.in-Class.is c.in_ok-ttl.ensures.ok head))
