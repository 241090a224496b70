use Rattle.zone_core.proofs.OneQuery.{query_fault_one}
use Rattle.zone_core.proofs.laws.query.one_query_fault.Goals as goal

pub returns : goal.returns
returns c = query_fault_one
