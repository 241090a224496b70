use Rattle.std.proofs.Common.{rules, sym, ◌∙◌}
use Rattle.dns_fields.proofs.StringsOf.{cut_first, cut_behind}
use Rattle.dns_fields.proofs.row.strings.StringsIterIterator.next.Goals as goal

pub invariant_of-self : goal.invariant_of-self
invariant_of-self c = cut_behind _ _ _ c.in_ok-string.ensures.some c.self.invariant

pub returns-clause-steps : goal.returns-clause-steps
returns-clause-steps c = sym c.self.view_is ∙ cut_first _ _ _ c.in_ok-string.ensures.some c.self.invariant

pub returns-clause-goes : goal.returns-clause-goes
returns-clause-goes c = let steps = returns-clause-steps c in search rules
