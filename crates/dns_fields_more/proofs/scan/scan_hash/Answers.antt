use Rattle.std.proofs.Common.{subst, sym}
use Rattle.dns_scan.specs.Token.{IsWord, Takes}
use Rattle.dns_fields_more.proofs.Scans.{no_hash, hash_scanned}
use Rattle.dns_fields_more.proofs.scan.scan_hash.Goals as goal

pub returns-in-Err-clause-err : goal.returns-in-Err-clause-err
returns-in-Err-clause-err g c = λ short. no_hash (c.in-Err.ensures.err short)

pub returns-in-Ok-append_hash-clause-ok : goal.returns-in-Ok-append_hash-clause-ok
returns-in-Ok-append_hash-clause-ok g c =
    hash_scanned (subst (λ text. Takes (IsWord text) (g.S.Scanner.tokens c.args.scanner.now) (g.S.Scanner.tokens c.scan_word.new.scanner)) (sym c.as_slice.ensures.value) c.in-Ok.ensures.ok)
    c.in-Ok-append_hash.ensures.ok
