use Rattle.zone_core.proofs.MadeQueries.{made_query}
use Rattle.zone_core.proofs.laws.query.made_query_is_read.Goals as goal

pub returns : goal.returns
returns c = made_query
