use Rattle.std.proofs.Common.{List, length, map}
use Rattle.dns_label.specs.declared.symbol.Symbol.{Symbol}
use Rattle.dns_scan.specs.declared.symbols.entry_symbol.EntrySymbol.TheVariants.{Symbol as Within}
use Rattle.dns_scan.specs.Symbols.{TakesAll}
use Rattle.dns_scan.proofs.SymbolsRead.{ReadingSymbols}
use Rattle.dns_scan.proofs.symbols.handing_over.hand_over_marked.Given as goal

abbrev pub invariant-loop-rest : goal.invariant-loop-rest
invariant-loop-rest g l =
    ((front : List Symbol) × ReadingSymbols l.text l.rest front × TakesAll (goal.F-step g) l.fn.op (map Within front) l.op)
    × goal.F-IsAlwaysCallable g l.op

abbrev pub decreases-loop-rest : goal.decreases-loop-rest
decreases-loop-rest g l = length l.rest
