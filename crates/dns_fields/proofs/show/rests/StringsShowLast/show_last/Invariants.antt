use Rattle.dns_fields.proofs.TextStrings.{Printed}
use Rattle.dns_fields.proofs.show.rests.StringsShowLast.show_last.Given as goal

abbrev pub invariant-loop-string : goal.invariant-loop-string
invariant-loop-string g l = Printed g.F.Formatter.writes l.initial.formatter l.self l.string-iterator l.formatter
