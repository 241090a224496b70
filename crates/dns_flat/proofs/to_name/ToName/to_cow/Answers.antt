use Rattle.std.proofs.Common.{sym, ◌∙◌}
use Rattle.dns_wire.proofs.Case.{wire_one}
use Rattle.dns_wire.proofs.Flat.{flat-written}
use Rattle.dns_flat.proofs.to_name.ToName.to_cow.Goals as goal

pub from_octets_unchecked-requires : goal.from_octets_unchecked-requires
from_octets_unchecked-requires g c = flat-written _ _ c.as_flat_slice.ensures.name c.in-Some.ensures.octets

pub returns-in-Some : goal.returns-in-Some
returns-in-Some g c = wire_one _ _ (sym c.from_octets_unchecked.ensures ∙ c.in-Some.ensures.octets)
