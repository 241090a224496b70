use Rattle.std.proofs.Common.{◌≡◌, ◌≤◌, ◌-◌, true, length, take}
use Rattle.std.specs.List.{list_all}
use Rattle.dns_scan.specs.StringText.{is_bare}
use Rattle.dns_scan.proofs.char_str.text.bare_len.Given as goal

abbrev pub invariant-loop-len : goal.invariant-loop-len
invariant-loop-len l = (l.len ≤ length l.octets) × (list_all (is_bare l.style) (take l.len l.octets) ≡ true)

abbrev pub decreases-loop-len : goal.decreases-loop-len
decreases-loop-len l = length l.octets - l.len
