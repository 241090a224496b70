use Rattle.std.proofs.Common.{◌≡◌, ℕ}
use Rattle.dns_field_texts.specs.Windows.{types_behind}
use Rattle.dns_field_texts.proofs.bitmap.iter.next_one.Given as goal

abbrev pub invariant-loop-at : goal.invariant-loop-at
invariant-loop-at l = (first : ℕ) → types_behind first l.window l.place ≡ types_behind first l.window l.at
