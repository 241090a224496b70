use Rattle.std.proofs.Common.{◌+◌, arith}
use Rattle.dns_wire.proofs.Case.{next_drops}
use Rattle.dns_wire.proofs.compare.behind.Goals as goal

pub loop-preserved : goal.loop-preserved
loop-preserved g c =
    next_drops c.next.result c.loop.labels c.next.new.self c.args.labels c.loop.counter (c.loop.counter + 1) c.next.ensures.steps c.loop.invariant (omega arith)
