use Rattle.std.proofs.Common.{length}
use Rattle.dns_field_texts.proofs.ShownTypes.{Shown}
use Rattle.dns_field_texts.proofs.bitmap.show.show_types.Given as goal

abbrev pub invariant-loop-number : goal.invariant-loop-number
invariant-loop-number g l = Shown g.F.Formatter.writes l.initial.formatter l.octets l.left l.formatter

abbrev pub decreases-loop-number : goal.decreases-loop-number
decreases-loop-number g l = length l.left
