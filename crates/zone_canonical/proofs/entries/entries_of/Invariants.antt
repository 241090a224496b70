use Rattle.std.proofs.Common.{◌≡◌, take, map}
use Rattle.zone_canonical.specs.Keyed.{keyed}
use Rattle.zone_canonical.proofs.entries.entries_of.Given as given

abbrev pub invariant-loop-index : given.invariant-loop-index
invariant-loop-index l = l.entries.items ≡ map (keyed l.apex) (take l.index l.records)
