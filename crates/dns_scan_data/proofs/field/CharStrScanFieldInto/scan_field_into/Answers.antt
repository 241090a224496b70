use Rattle.dns_scan_data.proofs.Strings.{string_appended}
use Rattle.dns_scan_data.proofs.field.CharStrScanFieldInto.scan_field_into.Goals as goal

pub returns-in-Ok-clause-ok : goal.returns-in-Ok-clause-ok
returns-in-Ok-clause-ok g c = string_appended c.in-Ok.ensures.ok
