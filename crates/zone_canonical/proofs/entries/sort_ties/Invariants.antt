use Rattle.std.proofs.Common.{◌-◌, length}
use Rattle.std.specs.List.Sorted.{IsPermutation}
use Rattle.zone_canonical.proofs.TiedKeys.{AreTied}
use Rattle.zone_canonical.proofs.entries.sort_ties.Given as given

abbrev pub invariant-loop-start : given.invariant-loop-start
invariant-loop-start l = record {
  moved : IsPermutation l.fn.entries l.entries;
  tied : AreTied l.entries l.start;
}

abbrev pub decreases-loop-start : given.decreases-loop-start
decreases-loop-start l = length l.entries - l.start
