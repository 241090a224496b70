use Rattle.std.proofs.Common.{length}
use Rattle.dns_scan.specs.Token.{SameNames}
use Rattle.dns_service_parameters.proofs.ServiceInOrder.{Scanned}
use Rattle.dns_service_parameters.proofs.scan.scan_each.Given as goal

abbrev pub invariant-loop-alloc : goal.invariant-loop-alloc
invariant-loop-alloc g l = record {
  scanned : Scanned (g.S.Scanner.tokens l.fn.scanner) (g.S.Scanner.tokens l.scanner) l.parameters.items;
  names : SameNames (g.S.Scanner.names l.fn.scanner) (g.S.Scanner.names l.scanner);
}

abbrev pub decreases-loop-alloc : goal.decreases-loop-alloc
decreases-loop-alloc g l = length (g.S.Scanner.tokens l.scanner)
