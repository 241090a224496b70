use Rattle.std.proofs.Common.{take}
use Rattle.zone_tool.specs.Counting.{AreCounters}
use Rattle.zone_tool.proofs.statistics.counters_of.Given as given

abbrev pub invariant-loop-index : given.invariant-loop-index
invariant-loop-index l = AreCounters (take l.index l.records) l.counters.items
