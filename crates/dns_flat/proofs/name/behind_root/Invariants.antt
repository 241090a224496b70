use Rattle.std.proofs.Common.{length}
use Rattle.dns_flat.specs.NoName.{StartsWithLabels}
use Rattle.dns_wire.proofs.Flat.{Leads}
use Rattle.dns_flat.proofs.name.behind_root.Given as goal

abbrev pub invariant-loop-label : goal.invariant-loop-label
invariant-loop-label l = record {
  leads : Leads l.octets l.rest;
  front : StartsWithLabels l.octets l.rest;
}

abbrev pub decreases-loop-label : goal.decreases-loop-label
decreases-loop-label l = length l.rest
