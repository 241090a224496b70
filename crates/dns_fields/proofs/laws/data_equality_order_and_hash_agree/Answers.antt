use Rattle.dns_fields.specs.AlikeLaws.{rows_ties, rows_alike}
use Rattle.dns_fields.proofs.laws.data_equality_order_and_hash_agree.Goals as goal

pub returns-clause-order : goal.returns-clause-order
returns-clause-order c = rows_ties

pub returns-clause-hash : goal.returns-clause-hash
returns-clause-hash c = rows_alike
