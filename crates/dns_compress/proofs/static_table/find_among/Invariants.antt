use Rattle.std.proofs.Common.{◌≡◌, drop}
use Rattle.dns_label.specs.Name.{wire}
use Rattle.dns_name.specs.Spelling.{static_spelling, place_in}
use Rattle.dns_compress.specs.Spots.{read_all}
use Rattle.dns_compress.proofs.static_table.find_among.Given as goal

abbrev pub invariant-loop-spot : goal.invariant-loop-spot
invariant-loop-spot l =
    place_in static_spelling (read_all l.octets (drop l.spot-index l.written)) (wire l.suffix)
    ≡ place_in static_spelling (read_all l.octets l.written) (wire l.suffix)
