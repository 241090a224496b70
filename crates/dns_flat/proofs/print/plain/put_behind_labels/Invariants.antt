use Rattle.std.proofs.Common.{◌-◌}
use Rattle.dns_label.specs.Labels.{labels_at}
use Rattle.dns_flat.proofs.PlainNames.{Marking}
use Rattle.dns_flat.proofs.print.plain.put_behind_labels.Given as goal

abbrev pub invariant-loop-end : goal.invariant-loop-end
invariant-loop-end l = Marking l.mark (labels_at l.octets 0) l.octets l.fn.text l.text l.end

abbrev pub decreases-loop-end : goal.decreases-loop-end
decreases-loop-end l = l.last - l.end
