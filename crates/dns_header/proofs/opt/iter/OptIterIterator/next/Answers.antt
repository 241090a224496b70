use Rattle.std.proofs.Common.{rules, sym, ◌∙◌}
use Rattle.dns_header.proofs.Options.{cut_first, cut_behind, cut_none}
use Rattle.dns_header.proofs.opt.iter.OptIterIterator.next.Goals as goal

pub invariant_of-self : goal.invariant_of-self
invariant_of-self c = let cut = cut_behind _ _ _ c.in-Ok.ensures.ok c.self.invariant in search rules

pub returns-in-Ok-clause-steps : goal.returns-in-Ok-clause-steps
returns-in-Ok-clause-steps c = let steps = sym c.self.view_is ∙ cut_first _ _ _ c.in-Ok.ensures.ok c.self.invariant in search rules

pub returns-in-Ok-clause-goes : goal.returns-in-Ok-clause-goes
returns-in-Ok-clause-goes c = let steps = returns-in-Ok-clause-steps c in search rules

pub returns-in-Err-clause-steps : goal.returns-in-Err-clause-steps
returns-in-Err-clause-steps c = let none = sym c.self.view_is ∙ cut_none _ c.in-Err.ensures.err c.self.invariant in (none, none)
