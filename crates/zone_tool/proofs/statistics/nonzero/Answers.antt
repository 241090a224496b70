use Rattle.std.proofs.Common.{refl, subst, arith}
use Rattle.zone_tool.specs.Counting.{AreCountsBelow}
use Rattle.zone_tool.proofs.Counters.{counts_more, counts_none, counts_skip}
use Rattle.zone_tool.proofs.statistics.nonzero.Goals as goal
use Rattle.zone_tool.proofs.statistics.nonzero.Goals.{then-count-gt0+in_ok-push, else-count-gt0}

pub loop-number-init : goal.loop-number-init
loop-number-init c = rw c.new-counts.ensures.items (counts_none c.args.counters.now)

pub loop-number-preserved : goal.loop-number-preserved
loop-number-preserved c =
    let counters = c.args.counters.now in
    let number = c.loop-number.number in
    let counts = c.loop-number.counts.items in
    elim c.if-count-gt0.branch [
      | then-count-gt0+in_ok-push w ↦
          rw (w.counts-is, w.in_ok-push.ensures.items)
          (counts_more counters number counts _ w.from_int.ensures refl w.if-count-gt0.true c.loop-number.invariant)
      | else-count-gt0 w ↦ rw w.counts-is (counts_skip counters number counts w.if-count-gt0.false c.loop-number.invariant)
    ]

pub returns : goal.returns
returns c = subst (λ n. AreCountsBelow c.args.counters.now n c.loop-number.counts.items) (omega arith) c.loop-number.invariant
