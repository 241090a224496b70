use Rattle.std.proofs.Common.{List, ℕ}
use Rattle.dns_label.specs.Seen.{Seen}
use Rattle.dns_label.proofs.label.slice_labels.find_label.Given as goal

abbrev pub invariant-loop-label : goal.invariant-loop-label
invariant-loop-label l =
    (labels : List (List ℕ)) → Seen l.octets l.left l.place labels → Seen l.octets l.fn.pointers l.fn.start labels

abbrev pub decreases-loop-label : goal.decreases-loop-label
decreases-loop-label l = l.left
