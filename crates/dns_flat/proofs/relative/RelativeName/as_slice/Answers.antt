use Rattle.std.proofs.Common.{◌∙◌, ap}
use Rattle.dns_label.specs.Name.{labels_wire}
use Rattle.dns_wire.proofs.FlatForms.{relative-octets}
use Rattle.dns_flat.proofs.relative.RelativeName.as_slice.Goals as goal

pub returns-clause-octets : goal.returns-clause-octets
returns-clause-octets g c = c.octets.ensures ∙ relative-octets _ c.self.invariant ∙ ap labels_wire c.self.view_is
