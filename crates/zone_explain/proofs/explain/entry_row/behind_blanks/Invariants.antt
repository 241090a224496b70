use Rattle.std.proofs.Common.{◌≡◌, ◌-◌, drop, length}
use Rattle.zone_explain.specs.Explained.{behind_blanks}
use Rattle.zone_explain.proofs.explain.entry_row.behind_blanks.Given as goal

abbrev pub invariant-loop-at : goal.invariant-loop-at
invariant-loop-at l = behind_blanks (drop l.at l.text) ≡ behind_blanks (drop l.offset l.text)

abbrev pub decreases-loop-at : goal.decreases-loop-at
decreases-loop-at l = length l.text - l.at
