use Rattle.zone_core.proofs.OneQuery.{query_no_fault}
use Rattle.zone_core.proofs.laws.query.query_breaks_no_rule.Goals as goal

pub returns : goal.returns
returns c = query_no_fault
