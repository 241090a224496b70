use Rattle.std.proofs.Common.{arith}
use Rattle.dns_label.specs.Label.{label_octets}
use Rattle.dns_wire.proofs.LastLabels.{stands_next, last_length, cut_last, Cuts}
use Rattle.dns_flat.proofs.name_iter.split_last.Goals as goal
use Rattle.dns_flat.proofs.name_iter.split_last.Goals.{After-front-1}

pub labels-preserved : goal.labels-preserved
labels-preserved c = stands_next c.labels.invariant c.in-Some.ensures.some c.in-Some.ensures.left

pub overflow_sub-octets : goal.overflow_sub-octets
overflow_sub-octets c =
    let long = last_length c.requires c.labels.invariant c.in_default.ensures.none in omega (arith, long, c.len.ensures)

pub overflow_sub-octets-2 : goal.overflow_sub-octets-2
overflow_sub-octets-2 c =
    let long = last_length c.requires c.labels.invariant c.in_default.ensures.none in omega (arith, long, c.len.ensures)

cuts : (c : After-front-1) → Cuts c.args.octets.now (label_octets c.labels.last) c.split_at.result.0.now
cuts c =
    let long = last_length c.requires c.labels.invariant c.in_default.ensures.none in
    cut_last _ c.requires c.labels.invariant c.in_default.ensures.none (omega (arith, long, c.len.ensures)) c.split_at.ensures.front

pub returns-clause-some : goal.returns-clause-some
returns-clause-some c = (cuts c).whole

pub returns-clause-left : goal.returns-clause-left
returns-clause-left c = (cuts c).are
