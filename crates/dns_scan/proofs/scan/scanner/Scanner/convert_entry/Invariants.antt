use Rattle.std.proofs.Common.{List, length}
use Rattle.dns_scan.specs.declared.symbols.entry_symbol.EntrySymbol.{EntrySymbol}
use Rattle.dns_scan.specs.Token.{SameNames}
use Rattle.dns_scan.proofs.SymbolsRead.{ReadingEntry}
use Rattle.dns_scan.proofs.scan.scanner.Scanner.convert_entry.Given as goal

abbrev pub invariant-loop-self : goal.invariant-loop-self
invariant-loop-self g l =
    ((front : List EntrySymbol) × ReadingEntry (g.Self.Scanner.tokens l.fn.self) (g.Self.Scanner.tokens l.self) front
    × g.C.ConvertSymbols.has_taken l.converter front (g.Self.OctetsBuilder.Octets.list l.builder))
    × SameNames (g.Self.Scanner.names l.fn.self) (g.Self.Scanner.names l.self)

abbrev pub decreases-loop-self : goal.decreases-loop-self
decreases-loop-self g l = length (g.Self.Scanner.tokens l.self)
