use Rattle.std.proofs.Common.{◌↔◌, ◌≤◌, length}
use Rattle.dns_service_parameters.proofs.ServiceValues.{HoldsKeys}
use Rattle.dns_service_parameters.proofs.check.are_keys.Given as goal

abbrev pub invariant-loop-key : goal.invariant-loop-key
invariant-loop-key l = (HoldsKeys 1 l.octets ↔ HoldsKeys l.least l.rest) × (l.least ≤ 65536)

abbrev pub decreases-loop-key : goal.decreases-loop-key
decreases-loop-key l = length l.rest
