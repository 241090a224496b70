use Rattle.std.proofs.Common.{◌≤◌, ◌+◌, List, ℕ, length, ap, sym, arith, rules}
use Rattle.dns_wire.specs.Parsed.{labels_left}
use Rattle.dns_wire.proofs.LastLabels.{walked_on, walked_few, take_few, walked_back}
use Rattle.dns_name.proofs.parsed_iter.ParsedNameIterDoubleEndedIterator.next_back.Goals as goal

pub overflow_add-count : goal.overflow_add-count
overflow_add-count c =
    let few = walked_few _ _ _ c.loop-label.last c.loop-label.invariant in
    let some = ap (length {A = List ℕ}) c.in-Some.ensures.steps in
    let seen = ap (length {A = List ℕ}) c.self.view_is in
    let long = take_few c.self.inside.most (labels_left c.self.inside.octets.now c.self.inside.place) in
    let within : c.loop-label.count + 1 ≤ c.self.inside.most = omega arith in
    search rules

pub loop-label-preserved : goal.loop-label-preserved
loop-label-preserved c = walked_on _ _ _ _ c.loop-label.last c.in-Some.label c.loop-label.invariant c.in-Some.ensures.steps

pub returns-clause-steps : goal.returns-clause-steps
returns-clause-steps c =
    walked_back _ _ _ (labels_left c.self.inside.octets.now c.self.inside.place) c.self.inside.most _ c.loop-label.invariant c.in_ok-front.was
    c.in-None.ensures.steps.0 (sym c.self.view_is)
