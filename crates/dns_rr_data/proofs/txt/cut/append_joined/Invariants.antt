use Rattle.dns_rr_data.proofs.Joins.{Joins}
use Rattle.dns_rr_data.proofs.txt.cut.append_joined.Given as goal

abbrev pub invariant-loop-string : goal.invariant-loop-string
invariant-loop-string g l =
    Joins (g.Builder.Octets.list l.fn.builder) (g.Builder.Octets.list l.builder) l.fn.strings l.rest (g.Builder.OctetsBuilder.bound l.fn.builder) (g.Builder.OctetsBuilder.bound l.builder)
