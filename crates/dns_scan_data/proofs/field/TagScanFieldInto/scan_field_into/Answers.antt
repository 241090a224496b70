use Rattle.dns_scan_data.proofs.Strings.{tag_appended}
use Rattle.dns_scan_data.proofs.field.TagScanFieldInto.scan_field_into.Goals as goal

pub returns-in-Ok-clause-ok : goal.returns-in-Ok-clause-ok
returns-in-Ok-clause-ok g c = tag_appended c.in-Ok.ensures.ok
