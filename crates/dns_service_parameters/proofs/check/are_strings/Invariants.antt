use Rattle.std.proofs.Common.{◌↔◌, length}
use Rattle.dns_service_parameters.proofs.ServiceValues.{HoldsStrings}
use Rattle.dns_service_parameters.proofs.check.are_strings.Given as goal

abbrev pub invariant-loop-len : goal.invariant-loop-len
invariant-loop-len l = HoldsStrings l.octets ↔ HoldsStrings l.rest

abbrev pub decreases-loop-len : goal.decreases-loop-len
decreases-loop-len l = length l.rest
