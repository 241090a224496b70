use Rattle.std.proofs.Common.{length}
use Rattle.dns_field_texts.proofs.LocationNumerals.{Pushing}
use Rattle.dns_field_texts.proofs.location.numerals.push_digits.Given as goal

abbrev pub invariant-loop-digit : goal.invariant-loop-digit
invariant-loop-digit l = Pushing l.fn.front l.fn.digits l.fn.most l.value l.left

abbrev pub decreases-loop-digit : goal.decreases-loop-digit
decreases-loop-digit l = length l.left
