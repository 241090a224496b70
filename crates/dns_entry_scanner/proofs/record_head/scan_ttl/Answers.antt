use Rattle.std.proofs.lemmas.Result.{err_from_is_err_and}
use Rattle.dns_entry_scanner.proofs.Heads.{no_ttl_word}
use Rattle.dns_entry_scanner.proofs.record_head.scan_ttl.Goals as goal

pub returns-in_err-ttl-clause-err : goal.returns-in_err-ttl-clause-err
returns-in_err-ttl-clause-err g c =
    let p = err_from_is_err_and c.from_residual.result c.from_residual.ensures.1 in
    rw (p.1, p.2) (λ short ttl' left takes. no_ttl_word (c.in_err-ttl.ensures.err short) takes)
