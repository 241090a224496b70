use Rattle.dns_fields.proofs.ComposedRows.{row_parses, row_parses_only, data_parses}
use Rattle.dns_fields.proofs.laws.composed_data_parses_back.Goals as goal

pub returns-clause-reads : goal.returns-clause-reads
returns-clause-reads c = row_parses

pub returns-clause-alone : goal.returns-clause-alone
returns-clause-alone c = row_parses_only

pub returns-clause-data : goal.returns-clause-data
returns-clause-data c = data_parses
