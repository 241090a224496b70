use Rattle.dns_fields_more.proofs.scan.scan_word.Goals as goal

pub returns-in-Err-clause-err : goal.returns-in-Err-clause-err
returns-in-Err-clause-err g c = λ short text left takes. let ran = c.in-Err.ensures.err short text left takes in let some = ran.1.1 in absurd (cc)
