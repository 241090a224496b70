use Rattle.dns_label.specs.Name.{with_root}
use Rattle.dns_name.proofs.Appending.{Appends}
use Rattle.dns_name.proofs.composer.in_full.append_labels.Given as goal

abbrev pub invariant-loop-label : goal.invariant-loop-label
invariant-loop-label g l =
    Appends (g.T.Octets.list l.fn.target) (g.T.Octets.list l.target) (g.T.Remembers.known l.fn.target) (g.T.Remembers.known l.target)
    (with_root (g.N.ToName.name l.fn.name)) l.label-iterator (g.T.OctetsBuilder.bound l.fn.target) (g.T.OctetsBuilder.bound l.target)
    × g.T.OctetsBuilder.stays l.fn.target l.target
