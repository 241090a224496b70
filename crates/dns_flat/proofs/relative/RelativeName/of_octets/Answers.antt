use Rattle.dns_wire.proofs.FlatForms.{relative-octets}
use Rattle.dns_flat.proofs.relative.RelativeName.of_octets.Goals as goal

pub returns : goal.returns
returns g c = relative-octets _ c.requires
