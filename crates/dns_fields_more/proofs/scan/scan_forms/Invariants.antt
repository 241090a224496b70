use Rattle.std.proofs.Common.{length}
use Rattle.dns_fields_more.proofs.ScanRows.{ScansOn}
use Rattle.dns_fields_more.proofs.scan.scan_forms.Given as goal

abbrev pub invariant-loop-form : goal.invariant-loop-form
invariant-loop-form g l =
    ScansOn (g.S.Scanner.names l.fn.scanner) (g.S.Scanner.names l.scanner) l.forms l.left (g.S.Scanner.tokens l.fn.scanner) (g.S.Scanner.tokens l.scanner)
    l.fn.octets.items l.octets.items

abbrev pub decreases-loop-form : goal.decreases-loop-form
decreases-loop-form g l = length l.left
