use Rattle.dns_wire.specs.FlatLabels.{AreLabels, flat_labels}
use Rattle.dns_wire.specs.Parts.{IsLabelStart}
use Rattle.dns_flat.proofs.relative.parts.starts_label.Given as goal

abbrev pub invariant-loop-left : goal.invariant-loop-left
invariant-loop-left l = record {
  are : AreLabels l.rest;
  on : IsLabelStart (flat_labels l.rest) l.left → IsLabelStart (flat_labels l.octets) l.place;
  back : IsLabelStart (flat_labels l.octets) l.place → IsLabelStart (flat_labels l.rest) l.left;
}

abbrev pub decreases-loop-left : goal.decreases-loop-left
decreases-loop-left l = l.left
