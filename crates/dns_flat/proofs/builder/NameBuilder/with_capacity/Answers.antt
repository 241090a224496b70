use Rattle.dns_wire.proofs.Builds.{stands_nothing, stands_here, stands_is}
use Rattle.dns_flat.proofs.builder.NameBuilder.with_capacity.Goals as goal

pub invariant_of-result : goal.invariant_of-result
invariant_of-result g c =
    stands_here _ _ _ (stands_nothing (g.B.Octets.list c.in_ok-with_capacity.field-0) c.in_ok-with_capacity.ensures.octets)

pub returns-clause-ok : goal.returns-clause-ok
returns-clause-ok g c =
    stands_is _ _ _ (stands_nothing (g.B.Octets.list c.in_ok-with_capacity.field-0) c.in_ok-with_capacity.ensures.octets)
