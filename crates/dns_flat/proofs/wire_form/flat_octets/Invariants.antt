use Rattle.std.proofs.Common.{◌≡◌, ◌++◌}
use Rattle.dns_label.specs.Name.{labels_wire}
use Rattle.dns_flat.proofs.wire_form.flat_octets.Given as goal

abbrev pub invariant-loop-label : goal.invariant-loop-label
invariant-loop-label g l = labels_wire (g.N.ToLabelIter.labels l.name) ≡ l.octets.items ++ labels_wire l.label-iterator
