use Rattle.std.proofs.Common.{refl}
use Rattle.zone_tool.proofs.Counters.{counters_fresh}
use Rattle.zone_tool.proofs.statistics.no_counters.Goals as goal

pub returns : goal.returns
returns c = counters_fresh 65536 c.vec.result refl c.vec.ensures.items_if_clones_equal
