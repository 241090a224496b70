use Rattle.std.proofs.Common.{List, length}
use Rattle.dns_label.specs.declared.symbol.Symbol.{Symbol}
use Rattle.dns_scan.proofs.SymbolsRead.{ReadingSymbols}
use Rattle.dns_scan.proofs.symbols.converting.convert_text.Given as goal

abbrev pub invariant-loop-rest : goal.invariant-loop-rest
invariant-loop-rest g l =
    (front : List Symbol) × ReadingSymbols l.text l.rest front
    × g.C.ConvertSymbols.has_taken l.converter front (g.Builder.Octets.list l.builder)

abbrev pub decreases-loop-rest : goal.decreases-loop-rest
decreases-loop-rest g l = length l.rest
