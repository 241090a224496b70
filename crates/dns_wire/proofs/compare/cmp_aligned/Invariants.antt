use Rattle.std.proofs.Common.{◌≡◌, length}
use Rattle.std.specs.Ordering.{ordering_then}
use Rattle.dns_wire.specs.Order.{labels_order}
use Rattle.dns_wire.proofs.compare.cmp_aligned.Given as goal

abbrev pub invariant-loop-label : goal.invariant-loop-label
invariant-loop-label g l = record {
  even : length l.labels ≡ length l.others;
  same : ordering_then (labels_order l.fn.labels l.fn.others) l.fn.tied ≡ ordering_then (labels_order l.labels l.others) l.order;
}

abbrev pub decreases-loop-label : goal.decreases-loop-label
decreases-loop-label g l = length l.labels
