use Rattle.std.proofs.Common.{refl}
use Rattle.dns_fields.specs.Fields.{number8}
use Rattle.dns_scan_data.proofs.field.U8ScanFieldInto.scan_field_into.Goals as goal

pub returns-in-Ok-push-clause-ok : goal.returns-in-Ok-push-clause-ok
returns-in-Ok-push-clause-ok g c =
    record { field = number8 c.in-Ok.number; kind = refl; scans = c.in-Ok.ensures.ok; behind = c.in-Ok-push.ensures.items }
