use Rattle.std.proofs.Common.{◌∙◌, subst, arith}
use Rattle.std.proofs.lemmas.List.{take_all}
use Rattle.zone_tool.specs.Counting.{AreCounters}
use Rattle.zone_tool.proofs.Counters.{counter_at, counter_few, counters_next}
use Rattle.zone_tool.proofs.statistics.counters_of.Goals as goal

pub index_mut-requires : goal.index_mut-requires
index_mut-requires c = omega (arith, c.to_int-rtype.type_inv, c.loop-index.invariant.long)

pub overflow_add-index_mut : goal.overflow_add-index_mut
overflow_add-index_mut c =
    omega (
      arith,
      counter_at c.loop-index.counters.items c.to_int-rtype.result c.index_mut.result.now c.to_int-rtype.type_inv c.loop-index.invariant.long
          c.index_mut.ensures.value,
      counter_few c.args.records.now c.loop-index.index c.loop-index.counters.items c.to_int-rtype.result c.to_int-rtype.type_inv c.loop-index.invariant,
      c.loop-index-test.true,
      c.len-index-end.ensures.few,
    )

pub loop-index-preserved : goal.loop-index-preserved
loop-index-preserved c =
    counters_next c.args.records.now c.loop-index.index c.record_at.result c.loop-index.counters.items c.index_mut.result.now c.to_int-rtype.result
    c.record_at.ensures (c.to_int-rtype.ensures ∙ c.rtype.ensures) c.to_int-rtype.type_inv
    (counter_at c.loop-index.counters.items c.to_int-rtype.result c.index_mut.result.now c.to_int-rtype.type_inv c.loop-index.invariant.long
    c.index_mut.ensures.value)
    c.loop-index.invariant

pub returns : goal.returns
returns c =
    subst (λ l. AreCounters l c.loop-index.counters.items)
    (take_all c.loop-index.index c.args.records.now (omega (arith, c.len-index-end.ensures.count, c.loop-index-test.false))) c.loop-index.invariant
