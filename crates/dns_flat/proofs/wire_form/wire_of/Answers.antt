use Rattle.std.proofs.Common.{◌∙◌, ap}
use Rattle.dns_label.specs.Name.{labels_wire}
use Rattle.dns_wire.proofs.Wire.{labels_wire-with_root}
use Rattle.dns_flat.proofs.wire_form.wire_of.Goals as goal

pub returns-in-None-clause-octets : goal.returns-in-None-clause-octets
returns-in-None-clause-octets g c =
    c.flat_octets.ensures ∙ ap labels_wire (g.met.N.ToName.is_absolute c.args.name.now) ∙ labels_wire-with_root (g.N.ToName.name c.args.name.now)
