use Rattle.std.proofs.Common.{◌≤◌, ◌-◌, length}
use Rattle.dns_entry_scanner.specs.BegunRow.{BegunRow}
use Rattle.dns_entry_scanner.proofs.row.read_row.Given as goal

abbrev pub invariant-loop-step : goal.invariant-loop-step
invariant-loop-step l = record {
  within : l.at ≤ length l.text;
  held : BegunRow l.text l.place l.tokens.items l.inside l.at;
}

abbrev pub decreases-loop-step : goal.decreases-loop-step
decreases-loop-step l = length l.text - l.at
