use Rattle.std.proofs.Common.{◌≡◌, ◌<◌, ◌≤◌, ◌-◌, ℕ, get_or, length}
use Rattle.zone_canonical.specs.Keyed.{Keyed}
use Rattle.zone_canonical.proofs.entries.end_of_tie.Given as given

abbrev pub invariant-loop-end : given.invariant-loop-end
invariant-loop-end l = record {
  after : l.start < l.end;
  within : l.end ≤ length l.entries;
  alike : (k : ℕ) (d : Keyed) → l.start ≤ k → k < l.end → (get_or l.entries k d).key ≡ l.key;
}

abbrev pub decreases-loop-end : given.decreases-loop-end
decreases-loop-end l = length l.entries - l.end
