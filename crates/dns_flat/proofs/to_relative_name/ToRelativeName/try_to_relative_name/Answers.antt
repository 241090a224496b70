use Rattle.std.proofs.Common.{◌∙◌}
use Rattle.dns_wire.proofs.FlatForms.{relative-written}
use Rattle.dns_wire.proofs.LowNames.{made_relative}
use Rattle.dns_flat.proofs.to_relative_name.ToRelativeName.try_to_relative_name.Goals as goal

pub copied_relative-requires : goal.copied_relative-requires
copied_relative-requires g c = relative-written _ _ c.labels_of.ensures.name (c.as_slice.ensures ∙ c.labels_of.ensures.octets)

pub returns-clause-ok : goal.returns-clause-ok
returns-clause-ok g c = made_relative c.copied_relative.result _ _ c.copied_relative.ensures.ok (c.as_slice.ensures ∙ c.labels_of.ensures.octets)
