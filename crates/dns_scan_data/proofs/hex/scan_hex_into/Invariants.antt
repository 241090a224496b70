use Rattle.std.proofs.Common.{length}
use Rattle.dns_scan.specs.Token.{SameNames}
use Rattle.dns_scan_data.specs.Appended.{GoesOn}
use Rattle.dns_scan_data.proofs.AppendedHex.{TakesOn}
use Rattle.dns_scan_data.proofs.hex.scan_hex_into.Given as goal

abbrev pub invariant-loop-scanner : goal.invariant-loop-scanner
invariant-loop-scanner g l = record {
  so : TakesOn (g.S.Scanner.tokens l.fn.scanner) (g.S.Scanner.tokens l.scanner) l.fn.octets.items l.octets.items;
  more : GoesOn l.fn.octets.items l.octets.items;
  names : SameNames (g.S.Scanner.names l.fn.scanner) (g.S.Scanner.names l.scanner);
}

abbrev pub decreases-loop-scanner : goal.decreases-loop-scanner
decreases-loop-scanner g l = length (g.S.Scanner.tokens l.scanner)
