use Rattle.zone_tool.specs.Counting.{AreCountsBelow}
use Rattle.zone_tool.proofs.statistics.nonzero.Given as given

abbrev pub invariant-loop-number : given.invariant-loop-number
invariant-loop-number l = AreCountsBelow l.counters l.number l.counts.items
