use Rattle.dns_wire.proofs.LastLabels.{Walked}
use Rattle.dns_wire.proofs.label_iter.LabelIterDoubleEndedIterator.next_back.Given as goal

abbrev pub invariant-loop-label : goal.invariant-loop-label
invariant-loop-label g l = Walked l.fn.self l.label-iterator l.count l.last
