use Rattle.std.proofs.Common.{◌∙◌}
use Rattle.dns_wire.proofs.Flat.{flat-written, flat-labels}
use Rattle.dns_flat.proofs.name.NameToName.to_vec.Goals as goal

pub invariant_of-result : goal.invariant_of-result
invariant_of-result g c = flat-written _ _ c.as_slice.ensures.name (c.in_ok-from_slice.ensures.items ∙ c.as_slice.ensures.octets)

pub returns : goal.returns
returns g c = flat-labels _ _ c.as_slice.ensures.name (c.in_ok-from_slice.ensures.items ∙ c.as_slice.ensures.octets)
