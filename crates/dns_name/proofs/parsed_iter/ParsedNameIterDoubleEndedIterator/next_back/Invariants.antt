use Rattle.dns_wire.proofs.LastLabels.{Walked}
use Rattle.dns_name.proofs.parsed_iter.ParsedNameIterDoubleEndedIterator.next_back.Given as goal

abbrev pub invariant-loop-label : goal.invariant-loop-label
invariant-loop-label l = Walked l.fn.self l.label-iterator l.count l.last
