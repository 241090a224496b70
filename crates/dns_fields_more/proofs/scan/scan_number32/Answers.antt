use Rattle.std.proofs.Common.{refl, rules}
use Rattle.dns_fields.specs.Fields.{number32}
use Rattle.dns_fields_more.proofs.Scans.{scanned}
use Rattle.dns_fields_more.proofs.scan.scan_number32.Goals as goal

pub returns-in-Ok-clause-ok : goal.returns-in-Ok-clause-ok
returns-in-Ok-clause-ok g c =
    scanned _ _ _ (number32 c.in-Ok.number)
    (record { is = record { kind = refl; is_field = search rules; keeps = tt }; spelled = c.in-Ok.ensures.ok }) (c.to_be_bytes.ensures) c.append_number.result c.append_number.ensures.ok
