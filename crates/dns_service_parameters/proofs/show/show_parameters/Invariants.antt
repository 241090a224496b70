use Rattle.std.proofs.Common.{◌≡◌, List, length}
use Rattle.dns_service_parameters.specs.Service.{AreParameters, Parameter, octets_of}
use Rattle.dns_service_parameters.proofs.ServicePrinted.{ShownSoFar}
use Rattle.dns_service_parameters.proofs.show.show_parameters.Given as goal

abbrev pub invariant-loop-key : goal.invariant-loop-key
invariant-loop-key g l =
    (parameters : List Parameter) → AreParameters parameters → l.octets ≡ octets_of parameters
    → ShownSoFar g.F.Formatter.writes l.fn.formatter l.rest l.formatter parameters

abbrev pub decreases-loop-key : goal.decreases-loop-key
decreases-loop-key g l = length l.rest
