use Rattle.std.proofs.Common.{◌≤◌, ℕ, length}
use Rattle.dns_wire.specs.Cut.{IsCut}
use Rattle.dns_wire.specs.Skip.{Skips}
use Rattle.dns_wire.proofs.skip.skip_name.Given as goal

abbrev pub invariant-loop-label : goal.invariant-loop-label
invariant-loop-label l = record {
  on : (next : ℕ) → Skips l.octets l.room l.place next → Skips l.octets 254 l.start next;
  back : (next : ℕ) → Skips l.octets 254 l.start next → Skips l.octets l.room l.place next;
  cut_on : IsCut l.octets 0 l.room l.place → IsCut l.octets 0 254 l.start;
  cut_back : IsCut l.octets 0 254 l.start → IsCut l.octets 0 l.room l.place;
  within : l.place ≤ length l.octets;
}

abbrev pub decreases-loop-label : goal.decreases-loop-label
decreases-loop-label l = l.room
