use Rattle.dns_fields_more.proofs.Scans.{string_scanned}
use Rattle.dns_fields_more.proofs.scan.scan_string.Goals as goal

pub returns-in-Ok-clause-ok : goal.returns-in-Ok-clause-ok
returns-in-Ok-clause-ok g c = string_scanned c.in-Ok.ensures.ok
