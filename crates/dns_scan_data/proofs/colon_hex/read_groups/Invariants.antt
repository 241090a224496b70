use Rattle.std.proofs.Common.{◌≡◌, ◌≤◌, ◌-◌, length, take, drop}
use Rattle.dns_scan_data.specs.ColonHex.{BeginsWithGroups}
use Rattle.dns_scan_data.proofs.colon_hex.read_groups.Given as goal

abbrev pub invariant-loop-count : goal.invariant-loop-count
invariant-loop-count l = record {
  groups : BeginsWithGroups l.text (take l.count l.segments) l.left;
  within : l.count ≤ length l.fn.segments;
  others : drop l.count l.segments ≡ drop l.count l.fn.segments;
}

abbrev pub decreases-loop-count : goal.decreases-loop-count
decreases-loop-count l = length l.segments - l.count
