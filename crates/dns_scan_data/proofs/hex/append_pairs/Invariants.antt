use Rattle.std.proofs.Common.{◌+◌, ◌/◌, ◌≤◌, length}
use Rattle.std.specs.Vec.{vec_capacity, vec_len}
use Rattle.dns_scan_data.specs.AppendedHex.{AppendsPairs}
use Rattle.dns_scan_data.proofs.hex.append_pairs.Given as goal

abbrev pub invariant-loop-left : goal.invariant-loop-left
invariant-loop-left l = record {
  pairs : AppendsPairs l.text l.left l.fn.octets.items l.octets.items;
  room : vec_len l.octets + length l.left / 2 ≤ vec_capacity l.octets;
}

abbrev pub decreases-loop-left : goal.decreases-loop-left
decreases-loop-left l = length l.left
