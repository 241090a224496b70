use Rattle.std.proofs.Common.{◌≡◌, ◌≤◌, ◌-◌, ◌*◌, take, length}
use Rattle.dns_name.specs.UnknownText.{hex_of}
use Rattle.dns_scan.proofs.encoding.hex_digits.write_digits.Given as goal

abbrev pub invariant-loop-at : goal.invariant-loop-at
invariant-loop-at l = (l.at ≤ length l.octets) × (take (2 * l.at) l.digits ≡ hex_of (take l.at l.octets))

abbrev pub decreases-loop-at : goal.decreases-loop-at
decreases-loop-at l = length l.octets - l.at
