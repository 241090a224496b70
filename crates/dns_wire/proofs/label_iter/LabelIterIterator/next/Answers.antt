use Rattle.std.proofs.Common.{◌≤◌, ◌<◌, ◌-◌, List, ℕ, length, ap, sym, ◌∙◌, arith, rules}
use Rattle.dns_wire.proofs.Items.{none_left, some_left, some_within}
use Rattle.dns_wire.proofs.LastLabels.{take_none, take_next}
use Rattle.dns_wire.proofs.label_iter.LabelIterIterator.next.Goals as goal

pub returns-in_err-label-clause-steps : goal.returns-in_err-label-clause-steps
returns-in_err-label-clause-steps g c =
    let labels = g.N.ToLabelIter.labels c.self.inside.name.now in
    let none = sym c.self.view_is ∙ take_none c.self.inside.most (none_left labels c.self.inside.index c.in_err-label.ensures.label) in
    rw c.from_residual.ensures (none, none)

pub overflow_add-self : goal.overflow_add-self
overflow_add-self g c =
    let labels = g.N.ToLabelIter.labels c.self.inside.name.now in
    let within : c.self.inside.index < length labels = some_within labels c.self.inside.index _ c.in_ok-label.ensures.label in
    let few : length labels ≤ 128 = c.in_ok-label.ensures.few in
    search rules

pub returns-clause-steps : goal.returns-clause-steps
returns-clause-steps g c =
    let labels = g.N.ToLabelIter.labels c.self.inside.name.now in
    sym c.self.view_is
    ∙ take_next c.self.inside.most (c.self.inside.most - 1) (omega arith) (some_left labels c.self.inside.index _ c.in_ok-label.ensures.label)

pub returns-clause-goes : goal.returns-clause-goes
returns-clause-goes g c =
    let long = ap (length {A = List ℕ}) (returns-clause-steps g c) in
    record { on = λ _. (search rules, search rules, omega arith); keeps = search rules; rests = search rules }
