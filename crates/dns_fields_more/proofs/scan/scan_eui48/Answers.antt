use Rattle.std.proofs.Common.{subst, sym}
use Rattle.dns_scan.specs.Token.{IsWord, Takes}
use Rattle.dns_fields_more.proofs.Scans.{no_eui48, no_eui48_word, eui48_scanned}
use Rattle.dns_fields_more.proofs.scan.scan_eui48.Goals as goal

pub returns-in-Err-clause-err : goal.returns-in-Err-clause-err
returns-in-Err-clause-err g c = λ short. no_eui48 (c.in-Err.ensures.err short)

pub returns-in-Ok-append_hardware-clause-ok : goal.returns-in-Ok-append_hardware-clause-ok
returns-in-Ok-append_hardware-clause-ok g c =
    eui48_scanned (subst (λ text. Takes (IsWord text) (g.S.Scanner.tokens c.args.scanner.now) (g.S.Scanner.tokens c.scan_word.new.scanner)) (sym c.as_slice.ensures.value) c.in-Ok.ensures.ok)
    c.in-Ok-append_hardware.ensures.ok

pub returns-clause-err : goal.returns-clause-err
returns-clause-err g c =
    λ short. no_eui48_word
    (subst (λ text. Takes (IsWord text) (g.S.Scanner.tokens c.args.scanner.now) (g.S.Scanner.tokens c.scan_word.new.scanner)) (sym c.as_slice.ensures.value) c.in-Ok.ensures.ok)
    (c.in-Err-append_hardware.ensures.err (c.word_error.ensures short))
