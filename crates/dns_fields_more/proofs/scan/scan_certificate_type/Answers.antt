use Rattle.std.proofs.Common.{refl, rules, sym, ap, ◌∙◌}
use Rattle.dns_fields.specs.Fields.{number16}
use Rattle.dns_field_texts.specs.NumberedWords.{certificate_type_read}
use Rattle.dns_fields_more.proofs.Scans.{no_certificate_type, scanned}
use Rattle.dns_fields_more.proofs.scan.scan_certificate_type.Goals as goal

pub returns-in-Ok-clause-ok : goal.returns-in-Ok-clause-ok
returns-in-Ok-clause-ok g c =
    let ran = c.in-Ok.ensures.ok in
    scanned _ _ _ (number16 c.in-Ok.number)
    (record {
      is = record { kind = refl; is_field = search rules; keeps = tt };
      spelled = record { text = ran.0; takes = ran.1; reads_as = sym (ran.2.1 ∙ ap certificate_type_read ran.2.2) };
    })
    c.to_be_bytes.ensures c.append_number.result c.append_number.ensures.ok

pub returns-in-Err-clause-err : goal.returns-in-Err-clause-err
returns-in-Err-clause-err g c =
    λ short. no_certificate_type (λ text left takes. let ran = c.in-Err.ensures.err short text left takes in ran.1 ∙ ap certificate_type_read ran.2)
