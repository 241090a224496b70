use Rattle.std.proofs.Common.{subst}
use Rattle.std.proofs.lemmas.Result.{IfOk-weaker}
use Rattle.zone_tool.specs.Counting.{AreCountsBelow}
use Rattle.zone_tool.specs.Statistics.{AreTypeCounts}
use Rattle.zone_tool.proofs.Counters.{type_counts_are}
use Rattle.zone_tool.proofs.statistics.type_counts.Goals as goal

pub returns : goal.returns
returns c =
    let records = c.args.records.now in
    let counters = c.in_ok-counters.counters.items in
    IfOk-weaker c.nonzero.result (λ counts. AreCountsBelow c.as_slice.result.now 65536 counts.items) (λ counts. AreTypeCounts records counts.items)
    (λ counts below. type_counts_are records counters counts.items c.requires c.in_ok-counters.ensures
    (subst (λ l. AreCountsBelow l 65536 counts.items) c.as_slice.ensures.value below)) c.nonzero.ensures
