use Rattle.std.proofs.Common.{◌-◌, ◌≤◌}
use Rattle.dns_field_texts.specs.Time.{days_of_years}
use Rattle.dns_field_texts.proofs.time.year_after.Given as goal

abbrev pub invariant-loop-year : goal.invariant-loop-year
invariant-loop-year l = record { from : 1 ≤ l.year; to : l.year ≤ 2106; begun : days_of_years (l.year - 1) ≤ l.days }

abbrev pub decreases-loop-year : goal.decreases-loop-year
decreases-loop-year l = 2107 - l.year
