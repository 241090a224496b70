use Rattle.std.proofs.Common.{refl, rules}
use Rattle.dns_fields.specs.Fields.{number8}
use Rattle.dns_fields_more.proofs.Scans.{scanned}
use Rattle.dns_fields_more.proofs.scan.scan_number8.Goals as goal

pub returns-in-Ok-clause-ok : goal.returns-in-Ok-clause-ok
returns-in-Ok-clause-ok g c =
    scanned _ _ _ (number8 c.in-Ok.number)
    (record { is = record { kind = refl; is_field = search rules; keeps = tt }; spelled = c.in-Ok.ensures.ok }) refl c.append_number.result c.append_number.ensures.ok
