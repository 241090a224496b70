use Rattle.std.proofs.Common.{◌↔◌, length}
use Rattle.dns_fields.proofs.StringsOf.{AreMade}
use Rattle.dns_fields.proofs.row.strings.are_strings.Given as goal

abbrev pub invariant-loop-rest : goal.invariant-loop-rest
invariant-loop-rest l = AreMade l.rest ↔ AreMade l.octets

abbrev pub decreases-loop-rest : goal.decreases-loop-rest
decreases-loop-rest l = length l.rest
