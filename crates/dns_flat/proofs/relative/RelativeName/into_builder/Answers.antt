use Rattle.dns_wire.proofs.Builds.{stands_here, stands_is}
use Rattle.dns_flat.proofs.BuiltNames.{stands_whole}
use Rattle.dns_flat.proofs.relative.RelativeName.into_builder.Goals as goal

pub invariant_of-result : goal.invariant_of-result
invariant_of-result g c = stands_here _ _ _ (stands_whole c.args.self c.into_octets.ensures.name c.into_octets.ensures.octets)

pub returns : goal.returns
returns g c = stands_is _ _ _ (stands_whole c.args.self c.into_octets.ensures.name c.into_octets.ensures.octets)
