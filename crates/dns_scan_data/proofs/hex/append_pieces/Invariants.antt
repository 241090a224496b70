use Rattle.std.proofs.Common.{length}
use Rattle.dns_scan_data.specs.AppendedHex.{AppendsPairs}
use Rattle.dns_scan_data.proofs.hex.append_pieces.Given as goal

abbrev pub invariant-loop-digits : goal.invariant-loop-digits
invariant-loop-digits l = AppendsPairs l.text l.left l.fn.octets.items l.octets.items

abbrev pub decreases-loop-digits : goal.decreases-loop-digits
decreases-loop-digits l = length l.left
