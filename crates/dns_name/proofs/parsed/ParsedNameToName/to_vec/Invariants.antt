use Rattle.std.proofs.Common.{◌≡◌, ◌++◌}
use Rattle.dns_label.specs.Name.{labels_wire, with_root}
use Rattle.dns_label.specs.Labels.{labels_at}
use Rattle.dns_name.proofs.parsed.ParsedNameToName.to_vec.Given as goal

abbrev pub invariant-loop-label : goal.invariant-loop-label
invariant-loop-label g l =
    labels_wire (with_root (labels_at (g.Octs.Octets.list l.self.octets) l.self.start)) ≡ l.octets.items ++ labels_wire l.label-iterator
