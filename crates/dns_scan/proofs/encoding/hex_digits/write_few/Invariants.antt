use Rattle.std.proofs.Common.{◌≡◌, ◌*◌, take}
use Rattle.dns_name.specs.UnknownText.{hex_of}
use Rattle.dns_scan.proofs.encoding.hex_digits.write_few.Given as goal

abbrev pub invariant-loop-index : goal.invariant-loop-index
invariant-loop-index l = take (2 * l.index) l.digits ≡ hex_of (take l.index l.octets)
