use Rattle.dns_fields.proofs.NameOctets.{wire_alike}
use Rattle.dns_fields.proofs.field.names.CompressibleFieldValue.field_eq.Goals as goal

pub returns : goal.returns
returns g c = wire_alike c.name_eq.result _ _ c.name_eq.ensures.labels.0 c.name_eq.ensures.labels.1
