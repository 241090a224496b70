use Rattle.std.proofs.Common.{◌+◌, ◌-◌, ◌≤◌, ℕ, false, length}
use Rattle.dns_entry_scanner.specs.BegunRow.{BegunRow}
use Rattle.dns_entry_scanner.proofs.row_front.read_front.Given as goal

abbrev pub invariant-loop-at : goal.invariant-loop-at
invariant-loop-at l = record {
  within : l.place + l.at ≤ length l.text;
  held : (start : ℕ) → BegunRow l.text start l.fn.tokens.items false l.place → BegunRow l.text start l.tokens.items l.inside (l.place + l.at);
}

abbrev pub decreases-loop-at : goal.decreases-loop-at
decreases-loop-at l = 64 - l.at
