use Rattle.std.proofs.Common.{◌∙◌}
use Rattle.dns_wire.proofs.Flat.{flat-written}
use Rattle.dns_wire.proofs.LowNames.{made_same}
use Rattle.dns_flat.proofs.to_name.ToName.try_to_name.Goals as goal

pub copied_name-requires : goal.copied_name-requires
copied_name-requires g c = flat-written _ _ c.wire_of.ensures.name (c.as_slice.ensures ∙ c.wire_of.ensures.octets)

pub returns-clause-ok : goal.returns-clause-ok
returns-clause-ok g c = made_same c.copied_name.result _ _ c.copied_name.ensures.ok (c.as_slice.ensures ∙ c.wire_of.ensures.octets)
