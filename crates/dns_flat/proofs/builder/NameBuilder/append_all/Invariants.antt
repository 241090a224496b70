use Rattle.std.proofs.Common.{List}
use Rattle.std.specs.Iterator.{Yields, IsFinite, size}
use Rattle.dns_label.specs.declared.symbol.Symbol.{Symbol}
use Rattle.dns_flat.specs.BuiltText.{Puts}
use Rattle.dns_flat.proofs.builder.NameBuilder.append_all.Given as goal

abbrev pub invariant-symbols : goal.invariant-symbols
invariant-symbols g l = record {
  can : g.S.Iterator.can_next l.symbols;
  ends : IsFinite (g.S.Iterator.remaining l.symbols);
  put : (taken : List Symbol) × Yields g.S.Iterator.next_gives l.fn.symbols taken l.symbols × Puts l.fn.self taken l.self;
}

abbrev pub decreases-symbols : goal.decreases-symbols
decreases-symbols g l = size (g.S.Iterator.remaining l.symbols)
