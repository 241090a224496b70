use Rattle.std.proofs.lemmas.Result.{err_from_is_err_and}
use Rattle.dns_entry_scanner.proofs.Heads.{no_word, class_behind}
use Rattle.dns_entry_scanner.proofs.record_head.scan_class_and_type.Goals as goal

pub returns-in_err-class-clause-err : goal.returns-in_err-class-clause-err
returns-in_err-class-clause-err g c =
    let p = err_from_is_err_and c.from_residual.result c.from_residual.ensures.1 in
    rw (p.1, p.2) (λ short class rtype left head. no_word (c.in_err-class.ensures.err short) head)

pub returns-in_err-scan_type-in-Class-clause-err : goal.returns-in_err-scan_type-in-Class-clause-err
returns-in_err-scan_type-in-Class-clause-err g c =
    let p = err_from_is_err_and c.from_residual-in_err-scan_type-in-Class.result c.from_residual-in_err-scan_type-in-Class.ensures.1 in
    rw (p.1, p.2) (λ short class rtype left head. c.in_err-scan_type-in-Class.ensures.err short rtype left (class_behind c.in-Class.is c.in_ok-class.ensures.ok head))
