use Rattle.dns_fields.proofs.ComposedRows.{row_read_once}
use Rattle.dns_fields.proofs.laws.data_is_read_as_one_row.Goals as goal

pub returns : goal.returns
returns c = row_read_once
