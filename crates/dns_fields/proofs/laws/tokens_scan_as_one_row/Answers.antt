use Rattle.dns_fields.proofs.ScannedOnce.{data_scanned_once}
use Rattle.dns_fields.proofs.laws.tokens_scan_as_one_row.Goals as goal

pub returns : goal.returns
returns g c = data_scanned_once _
