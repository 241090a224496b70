use Rattle.std.proofs.Common.{take}
use Rattle.zone_tool.specs.Statistics.{IsCounted}
use Rattle.zone_tool.proofs.CountedOwners.{HasCounted}
use Rattle.zone_tool.proofs.statistics.count_owners.Given as given

abbrev pub invariant-loop-index : given.invariant-loop-index
invariant-loop-index l = HasCounted (IsCounted l.only_delegations l.apex) (take l.index l.forms) l.count l.last
