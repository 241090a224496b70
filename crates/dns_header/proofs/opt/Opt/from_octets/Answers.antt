use Rattle.std.proofs.Common.{ℕ, List, sym, subst, rules}
use Rattle.dns_header.specs.Opt.{AreOptions}
use Rattle.dns_header.proofs.Options.{options_cut}
use Rattle.dns_header.proofs.opt.Opt.from_octets.Goals as goal

pub invariant_of-result : goal.invariant_of-result
invariant_of-result g c =
    (options_cut _ (subst (λ (l : List ℕ). AreOptions l) c.octets-2.ensures (c.are_options.ensures.0 (search rules))), search rules)

pub returns-clause-ok : goal.returns-clause-ok
returns-clause-ok g c =
    sym (options_cut _ (subst (λ (l : List ℕ). AreOptions l) c.octets-2.ensures (c.are_options.ensures.0 (search rules)))).written
