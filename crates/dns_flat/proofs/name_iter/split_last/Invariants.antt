use Rattle.std.proofs.Common.{length}
use Rattle.dns_label.specs.Label.{label_octets}
use Rattle.dns_wire.specs.FlatLabels.{flat_labels}
use Rattle.dns_wire.proofs.LastLabels.{Stands}
use Rattle.dns_flat.proofs.name_iter.split_last.Given as goal

abbrev pub invariant-labels : goal.invariant-labels
invariant-labels l = Stands l.octets (label_octets l.last) l.rest

abbrev pub decreases-labels : goal.decreases-labels
decreases-labels l = length (flat_labels l.rest)
