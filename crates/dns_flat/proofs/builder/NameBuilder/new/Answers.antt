use Rattle.dns_wire.proofs.Builds.{stands_nothing, stands_here, stands_is}
use Rattle.dns_flat.proofs.builder.NameBuilder.new.Goals as goal

pub invariant_of-result : goal.invariant_of-result
invariant_of-result g c = stands_here _ _ _ (stands_nothing (g.B.Octets.list c.empty.result) c.empty.ensures.octets)

pub returns : goal.returns
returns g c = stands_is _ _ _ (stands_nothing (g.B.Octets.list c.empty.result) c.empty.ensures.octets)
