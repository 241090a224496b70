use Rattle.std.proofs.Common.{length}
use Rattle.dns_scan.specs.Token.{SameNames}
use Rattle.dns_field_texts.proofs.ScannedTypes.{Scanned}
use Rattle.dns_field_texts.proofs.bitmap.scan.scan_types_into.Given as goal

abbrev pub invariant-loop-scanner : goal.invariant-loop-scanner
invariant-loop-scanner g l = record {
  scanned : Scanned (g.S.Scanner.tokens l.fn.scanner) (g.S.Scanner.tokens l.scanner) l.set;
  names : SameNames (g.S.Scanner.names l.fn.scanner) (g.S.Scanner.names l.scanner);
}

abbrev pub decreases-loop-scanner : goal.decreases-loop-scanner
decreases-loop-scanner g l = length (g.S.Scanner.tokens l.scanner)
