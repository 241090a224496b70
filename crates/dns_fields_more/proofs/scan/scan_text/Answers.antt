use Rattle.dns_fields_more.proofs.Scans.{text_scanned}
use Rattle.dns_fields_more.proofs.scan.scan_text.Goals as goal

pub returns-in-Ok-clause-ok : goal.returns-in-Ok-clause-ok
returns-in-Ok-clause-ok g c = text_scanned c.in-Ok.ensures.ok
