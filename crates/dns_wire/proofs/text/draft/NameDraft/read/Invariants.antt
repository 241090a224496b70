use Rattle.std.proofs.Common.{List, ℕ}
use Rattle.std.specs.Iterator.{Yields, IsFinite, size}
use Rattle.dns_label.specs.declared.symbol.Symbol.{Symbol}
use Rattle.dns_wire.specs.Draft.{Holds}
use Rattle.dns_wire.proofs.Parts.{Reading}
use Rattle.dns_wire.proofs.text.draft.NameDraft.read.Given as goal

abbrev pub invariant-symbols : goal.invariant-symbols
invariant-symbols g l = record {
  can : g.S.Iterator.can_next l.symbols;
  ends : IsFinite (g.S.Iterator.remaining l.symbols);
  read : (taken : List Symbol) × (done : List (List ℕ)) × (begun : List ℕ) × Yields g.S.Iterator.next_gives l.fn.symbols taken l.symbols × Reading taken done begun × Holds l.draft done begun;
}

abbrev pub decreases-symbols : goal.decreases-symbols
decreases-symbols g l = size (g.S.Iterator.remaining l.symbols)
