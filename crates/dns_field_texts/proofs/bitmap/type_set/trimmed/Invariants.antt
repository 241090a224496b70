use Rattle.std.proofs.Common.{◌≡◌, ◌++◌, ℕ, length, replicate}
use Rattle.dns_field_texts.proofs.bitmap.type_set.trimmed.Given as goal

abbrev pub invariant-loop-front : goal.invariant-loop-front
invariant-loop-front l = (count : ℕ) × (l.octets ≡ l.left ++ replicate count 0)

abbrev pub decreases-loop-front : goal.decreases-loop-front
decreases-loop-front l = length l.left
