use Rattle.std.proofs.Common.{ℕ, length, sym, ◌∙◌, ap, arith}
use Rattle.dns_scan.proofs.BitLists.{length-bits}
use Rattle.dns_scan.proofs.BitSteps.{taken, taken_small}
use Rattle.dns_scan.proofs.encoding.bits.Bits.take.Goals as goal

pub overflow_sub-rest : goal.overflow_sub-rest
overflow_sub-rest c =
    let size = sym (length-bits c.self.inside.count c.self.inside.number) ∙ ap (length {A = ℕ}) c.self.view_is in
    let within = c.requires in omega arith

pub returns-clause-taken : goal.returns-clause-taken
returns-clause-taken c =
    let size = sym (length-bits c.self.inside.count c.self.inside.number) ∙ ap (length {A = ℕ}) c.self.view_is in
    let within = c.requires in
    sym c.self.view_is ∙ taken c.self.inside.number c.self.inside.count c.args.count (omega arith) c.self.invariant.0

pub returns-clause-small : goal.returns-clause-small
returns-clause-small c =
    let size = sym (length-bits c.self.inside.count c.self.inside.number) ∙ ap (length {A = ℕ}) c.self.view_is in
    let within = c.requires in
    taken_small c.self.inside.number c.self.inside.count c.args.count (omega arith) c.self.invariant.1
