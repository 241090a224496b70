use Rattle.std.proofs.Common.{length}
use Rattle.dns_field_texts.proofs.TypesSought.{Sought}
use Rattle.dns_field_texts.proofs.bitmap.rtype_bitmap.has_type.Given as goal

abbrev pub invariant-loop-number : goal.invariant-loop-number
invariant-loop-number l = Sought l.octets l.left l.rtype

abbrev pub decreases-loop-number : goal.decreases-loop-number
decreases-loop-number l = length l.left
