use Rattle.std.proofs.Common.{length}
use Rattle.dns_label.specs.Name.{low}
use Rattle.dns_wire.specs.Suffix.{StartsWith}
use Rattle.dns_wire.proofs.compare.starts_with.Given as goal

abbrev pub invariant-loop-other : goal.invariant-loop-other
invariant-loop-other g l = record {
  on : StartsWith (low l.labels) (low l.others) → StartsWith (low (g.N.ToLabelIter.labels l.name)) (low (g.B.ToLabelIter.labels l.start));
  back : StartsWith (low (g.N.ToLabelIter.labels l.name)) (low (g.B.ToLabelIter.labels l.start)) → StartsWith (low l.labels) (low l.others);
}

abbrev pub decreases-loop-other : goal.decreases-loop-other
decreases-loop-other g l = length l.others
