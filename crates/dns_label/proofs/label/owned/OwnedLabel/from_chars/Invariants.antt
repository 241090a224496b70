use Rattle.std.proofs.Common.{List}
use Rattle.std.specs.List.{flat_map}
use Rattle.std.specs.Iterator.{Yields, IsFinite, size}
use Rattle.dns_label.specs.declared.symbol.Symbol.{Symbol}
use Rattle.dns_label.specs.OwnedLabel.{octets_owned}
use Rattle.dns_label.specs.Symbol.{spelled}
use Rattle.dns_label.proofs.LabelTexts.{Taking}
use Rattle.dns_label.proofs.label.owned.OwnedLabel.from_chars.Given as goal

abbrev pub invariant-loop-chars : goal.invariant-loop-chars
invariant-loop-chars g l = record {
  can : g.C.Iterator.can_next l.chars;
  ends : IsFinite (g.C.Iterator.remaining l.chars);
  read : (taken : List Symbol) × Taking taken (octets_owned l.label) × Yields g.C.Iterator.next_gives l.fn.chars (flat_map spelled taken) l.chars;
}

abbrev pub decreases-loop-chars : goal.decreases-loop-chars
decreases-loop-chars g l = size (g.C.Iterator.remaining l.chars)
