use Rattle.dns_rdata_more.proofs.Rows.{row_back}
use Rattle.dns_rdata_more.proofs.laws.rows_are_read_back.Goals as goal

pub returns : goal.returns
returns c = row_back
