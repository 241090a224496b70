use Rattle.std.proofs.Common.{◌≤◌, ◌+◌, ◌-◌, length}
use Rattle.dns_wire.specs.Cut.{IsCut}
use Rattle.dns_wire.proofs.Walking.{Walks}
use Rattle.dns_wire.proofs.walk.walk_name.Given as goal

abbrev pub invariant-loop-label : goal.invariant-loop-label
invariant-loop-label l = record {
  walks : Walks l.octets l.start l.place l.len l.left l.behind;
  cut_on : IsCut l.octets l.left (254 - l.len) l.place → IsCut l.octets 255 254 l.start;
  cut_back : IsCut l.octets 255 254 l.start → IsCut l.octets l.left (254 - l.len) l.place;
  within : l.place ≤ length l.octets;
  few : l.len ≤ 254;
}

abbrev pub decreases-loop-label : goal.decreases-loop-label
decreases-loop-label l = l.left + (254 - l.len)
