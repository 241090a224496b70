use Rattle.std.proofs.Common.{◌≡◌, ◌≤◌, ◌-◌, length}
use Rattle.zone_explain.specs.EntryRow.{HasPassed}
use Rattle.zone_explain.proofs.explain.entry_row.row_behind.Given as goal

abbrev pub invariant-loop-row : goal.invariant-loop-row
invariant-loop-row l = record {
  passed : HasPassed l.text l.initial.row.place l.row.place (l.number - l.left);
  most : l.left ≤ l.number;
  few : l.number - l.left ≤ l.number - 1;
  marked : l.row.mark ≡ l.initial.row.mark;
}

abbrev pub decreases-loop-row : goal.decreases-loop-row
decreases-loop-row l = length l.text - l.row.place
