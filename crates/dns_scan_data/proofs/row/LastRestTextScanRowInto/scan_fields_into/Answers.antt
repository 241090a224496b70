use Rattle.dns_scan_data.proofs.Strings.{no_text, text_appended}
use Rattle.dns_scan_data.proofs.row.LastRestTextScanRowInto.scan_fields_into.Goals as goal

pub returns-in-Ok-clause-ok : goal.returns-in-Ok-clause-ok
returns-in-Ok-clause-ok g c = text_appended c.in-Ok.ensures.ok

pub returns-in-Err-clause-err : goal.returns-in-Err-clause-err
returns-in-Err-clause-err g c = λ short. no_text _ (c.in-Err.ensures.err short)
