use Rattle.std.proofs.Common.{◌≡◌}
use Rattle.dns_label.specs.Labels.{labels_at}
use Rattle.dns_wire.specs.Parsed.{IsReadAt}
use Rattle.dns_wire.proofs.walk.split_label.Given as goal

abbrev pub invariant-loop-label : goal.invariant-loop-label
invariant-loop-label l = record {
  read : ∥ IsReadAt l.octets l.place ∥₁;
  labels : labels_at l.octets l.start ≡ labels_at l.octets l.place;
}

abbrev pub decreases-loop-label : goal.decreases-loop-label
decreases-loop-label l = l.place
