use Rattle.dns_label.specs.Name.{wire, labels_wire, low}
use Rattle.dns_fields.proofs.Prefixes.{IsBegun}
use Rattle.dns_fields.proofs.octets_ord.names.split_name.Given as goal

abbrev pub invariant-loop-label : goal.invariant-loop-label
invariant-loop-label g l =
    IsBegun (wire (low (g.N.ToName.name l.fn.name))) (labels_wire (low l.label-iterator)) l.fn.octets l.rest
