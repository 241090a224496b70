use Rattle.std.proofs.Common.{length}
use Rattle.dns_rr_data.proofs.Builds.{Taken}
use Rattle.dns_rr_data.proofs.txt.cut.append_strings.Given as goal

abbrev pub invariant-loop-rest : goal.invariant-loop-rest
invariant-loop-rest g l = Taken l.text l.rest (g.Builder.Octets.list l.fn.builder) (g.Builder.Octets.list l.builder)

abbrev pub decreases-loop-rest : goal.decreases-loop-rest
decreases-loop-rest g l = length l.rest
