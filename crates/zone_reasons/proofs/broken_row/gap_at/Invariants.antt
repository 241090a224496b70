use Rattle.std.proofs.Common.{◌-◌, length}
use Rattle.zone_reasons.proofs.broken_row.gap_at.Given as goal

abbrev pub decreases-loop-end : goal.decreases-loop-end
decreases-loop-end l = length l.text - l.end
