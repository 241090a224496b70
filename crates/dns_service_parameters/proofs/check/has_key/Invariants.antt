use Rattle.std.proofs.Common.{◌≡◌, List, length}
use Rattle.std.specs.List.{AllByRecursion}
use Rattle.dns_service_parameters.specs.Service.{IsParameter, Parameter, octets_of}
use Rattle.dns_service_parameters.proofs.ServiceKeys.{KeyLeft}
use Rattle.dns_service_parameters.proofs.check.has_key.Given as goal

abbrev pub invariant-loop-key : goal.invariant-loop-key
invariant-loop-key l =
    (parameters : List Parameter) → AllByRecursion IsParameter parameters → l.octets ≡ octets_of parameters → KeyLeft l.octets l.rest l.wanted parameters

abbrev pub decreases-loop-key : goal.decreases-loop-key
decreases-loop-key l = length l.rest
