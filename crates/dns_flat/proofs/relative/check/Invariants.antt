use Rattle.std.proofs.Common.{◌++◌, ◌∷◌, [], length}
use Rattle.dns_flat.specs.NoName.{StartsWithLabels}
use Rattle.dns_wire.proofs.Flat.{Leads}
use Rattle.dns_flat.proofs.relative.check.Given as goal

abbrev pub invariant-loop-rest : goal.invariant-loop-rest
invariant-loop-rest l = record {
  leads : Leads (l.octets ++ 0 ∷ []) (l.rest ++ 0 ∷ []);
  front : StartsWithLabels l.octets l.rest;
}

abbrev pub decreases-loop-rest : goal.decreases-loop-rest
decreases-loop-rest l = length l.rest
