use Rattle.dns_rdata.proofs.PrintedData.{any_one}
use Rattle.dns_rdata.proofs.laws.tokens_scan_as_one_data.Goals as goal

pub returns : goal.returns
returns g c = any_one _ c.tokens_scan_as_one_row.ensures
