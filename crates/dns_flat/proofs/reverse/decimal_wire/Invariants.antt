use Rattle.std.proofs.Common.{◌≡◌, ◌+◌, ◌*◌, ◌≤◌, ◌++◌, length}
use Rattle.dns_label.specs.Name.{labels_wire}
use Rattle.dns_flat.specs.Reverse.{decimal_labels}
use Rattle.dns_flat.proofs.reverse.decimal_wire.Given as goal

abbrev pub invariant-octets : goal.invariant-octets
invariant-octets l = record {
  labels : l.wire.items ++ labels_wire (decimal_labels l.rest) ≡ labels_wire (decimal_labels l.octets);
  few : length l.wire.items + 4 * length l.rest ≤ 16;
}

abbrev pub decreases-octets : goal.decreases-octets
decreases-octets l = length l.rest
