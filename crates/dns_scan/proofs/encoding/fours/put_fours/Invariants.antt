use Rattle.std.proofs.Common.{◌≡◌, ◌*◌, take}
use Rattle.dns_scan.specs.Base.{characters_of}
use Rattle.dns_scan.specs.declared.encoding.base.Base.TheVariants.{SixtyFour}
use Rattle.dns_scan.proofs.encoding.fours.put_fours.Given as goal

abbrev pub invariant-loop-index : goal.invariant-loop-index
invariant-loop-index l = take (4 * l.index) l.characters ≡ characters_of SixtyFour (take (3 * l.index) l.octets)
