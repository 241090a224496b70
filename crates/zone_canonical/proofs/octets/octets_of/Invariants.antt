use Rattle.std.proofs.Common.{◌≡◌, take}
use Rattle.std.specs.List.{flat_map}
use Rattle.zone_canonical.specs.Keyed.{form_octets}
use Rattle.zone_canonical.proofs.octets.octets_of.Given as given

abbrev pub invariant-loop-entry : given.invariant-loop-entry
invariant-loop-entry l = l.octets.items ≡ flat_map form_octets (take l.entry-index l.entries)
