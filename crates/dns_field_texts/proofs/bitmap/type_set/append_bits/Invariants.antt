use Rattle.std.proofs.Common.{length}
use Rattle.dns_field_texts.proofs.TypeWindows.{Written}
use Rattle.dns_field_texts.proofs.bitmap.type_set.append_bits.Given as goal

abbrev pub invariant-loop-left : goal.invariant-loop-left
invariant-loop-left l = Written l.bits l.fn.octets.items l.octets.items l.number l.left

abbrev pub decreases-loop-left : goal.decreases-loop-left
decreases-loop-left l = length l.left
