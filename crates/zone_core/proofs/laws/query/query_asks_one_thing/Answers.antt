use Rattle.zone_core.proofs.OneQuery.{query_one}
use Rattle.zone_core.proofs.laws.query.query_asks_one_thing.Goals as goal

pub returns : goal.returns
returns c = query_one
