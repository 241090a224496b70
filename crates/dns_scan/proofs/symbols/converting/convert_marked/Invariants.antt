use Rattle.std.proofs.Common.{List, ◌++◌, length, map}
use Rattle.dns_label.specs.declared.symbol.Symbol.{Symbol}
use Rattle.dns_scan.specs.declared.symbols.entry_symbol.EntrySymbol.{EntrySymbol}
use Rattle.dns_scan.specs.declared.symbols.entry_symbol.EntrySymbol.TheVariants.{Symbol as Within}
use Rattle.dns_scan.proofs.SymbolsRead.{ReadingSymbols}
use Rattle.dns_scan.proofs.symbols.converting.convert_marked.Given as goal

abbrev pub invariant-loop-rest : goal.invariant-loop-rest
invariant-loop-rest g l =
    (within : List Symbol) × ReadingSymbols l.text l.rest within
    × ((front : List EntrySymbol) → g.C.ConvertSymbols.has_taken l.fn.converter front (g.Builder.Octets.list l.fn.builder)
    → g.C.ConvertSymbols.has_taken l.converter (front ++ map Within within) (g.Builder.Octets.list l.builder))

abbrev pub decreases-loop-rest : goal.decreases-loop-rest
decreases-loop-rest g l = length l.rest
