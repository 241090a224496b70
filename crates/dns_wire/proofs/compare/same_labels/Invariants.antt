use Rattle.std.proofs.Common.{◌≡◌}
use Rattle.dns_label.specs.Name.{low}
use Rattle.dns_wire.proofs.compare.same_labels.Given as goal

abbrev pub invariant-loop-label : goal.invariant-loop-label
invariant-loop-label g l = record {
  on : low l.labels ≡ low l.others → low l.fn.labels ≡ low l.fn.others;
  back : low l.fn.labels ≡ low l.fn.others → low l.labels ≡ low l.others;
}
