use Rattle.std.proofs.Common.{◌-◌, ◌≤◌}
use Rattle.dns_field_texts.specs.Time.{days_of_months}
use Rattle.dns_field_texts.proofs.time.month_after.Given as goal

abbrev pub invariant-loop-month : goal.invariant-loop-month
invariant-loop-month l = record { from : 1 ≤ l.month; to : l.month ≤ 12; begun : days_of_months l.year (l.month - 1) ≤ l.days }

abbrev pub decreases-loop-month : goal.decreases-loop-month
decreases-loop-month l = 12 - l.month
