use Rattle.std.proofs.Common.{◌≡◌, ◌+◌, length}
use Rattle.dns_label.specs.Name.{labels_wire}
use Rattle.dns_wire.specs.Chain.{before_root}
use Rattle.dns_flat.proofs.chain.len_before_root.Given as goal

abbrev pub invariant-loop-label : goal.invariant-loop-label
invariant-loop-label g l =
    length (labels_wire (before_root (g.N.ToLabelIter.labels l.name))) ≡ l.len + length (labels_wire (before_root l.label-iterator))
