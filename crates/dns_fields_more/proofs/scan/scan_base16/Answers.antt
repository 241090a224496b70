use Rattle.std.proofs.Common.{refl, sym, ◌∙◌}
use Rattle.dns_fields.specs.Fields.{rest16}
use Rattle.dns_fields_more.proofs.Scans.{empty_rest16, if_empty, no_rest16, some_scanned}
use Rattle.dns_fields_more.proofs.scan.scan_base16.Goals as goal

pub returns-in-Ok-clause-ok : goal.returns-in-Ok-clause-ok
returns-in-Ok-clause-ok g c =
    some_scanned _ _ _ (rest16 _)
    (λ some. record { is = record { kind = refl; is_field = tt; keeps = tt }; spelled = (c.in-Ok.ensures.ok, λ none. some (c.octets.ensures ∙ none)) })
    c.octets.ensures c.append_some.result c.append_some.ensures.ok

pub returns-in-Err-clause-err : goal.returns-in-Err-clause-err
returns-in-Err-clause-err g c = λ short. no_rest16 (c.in-Err.ensures.err short)

pub returns-in-Ok-clause-err : goal.returns-in-Ok-clause-err
returns-in-Ok-clause-err g c =
    let ran = c.in-Ok.ensures.ok in
    if_empty _ (λ none. empty_rest16 ran.0 _ ran.1 ran.2 (sym c.octets.ensures ∙ none)) c.append_some.result c.append_some.ensures.err
