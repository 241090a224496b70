use Rattle.std.proofs.Common.{◌↔◌, ◌≤◌, length}
use Rattle.dns_service_parameters.specs.ServiceParts.{HoldsOrdered}
use Rattle.dns_service_parameters.proofs.check.are_ordered.Given as goal

abbrev pub invariant-loop-key : goal.invariant-loop-key
invariant-loop-key l = (HoldsOrdered 0 l.octets ↔ HoldsOrdered l.least l.rest) × (l.least ≤ 65536)

abbrev pub decreases-loop-key : goal.decreases-loop-key
decreases-loop-key l = length l.rest
