use Rattle.std.proofs.Common.{◌≡◌, ◌+◌, ◌-◌, ◌++◌, ◌≤◌, length, take}
use Rattle.std.specs.Vec.{vec_capacity, vec_len}
use Rattle.dns_fields_more.proofs.scan.append_number.Given as goal

abbrev pub invariant-loop-index : goal.invariant-loop-index
invariant-loop-index g l = record {
  items : l.octets.items ≡ l.fn.octets.items ++ take l.index l.number;
  room : vec_len l.octets + (length l.number - l.index) ≤ vec_capacity l.octets;
}
