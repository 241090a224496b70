use Rattle.std.proofs.Common.{◌≤◌}
use Rattle.zone_general.specs.DataText.{text_of}
use Rattle.zone_general.proofs.RowGoing.{Reached}
use Rattle.zone_general.proofs.rewriting.append_from.Given as goal

abbrev pub invariant-loop-index : goal.invariant-loop-index
invariant-loop-index l = (l.type_index ≤ l.index) × Reached l.row l.type_index l.word (text_of l.text) l.behind l.index l.fn.out.items l.out.items
