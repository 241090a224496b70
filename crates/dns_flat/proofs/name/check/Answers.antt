use Rattle.std.proofs.Common.{◌≡◌, List, ℕ, [], subst, arith}
use Rattle.std.proofs.lemmas.Grind.{common_steps}
use Rattle.dns_wire.specs.Flat.{StartsWithName}
use Rattle.dns_wire.proofs.Flat.{written-whole, whole_front, same_rest, always_on_err}
use Rattle.dns_flat.proofs.name.check.Goals as goal

pub returns-in_err-behind-clause-err : goal.returns-in_err-behind-clause-err
returns-in_err-behind-clause-err c =
    always_on_err c.from_residual.result
    (λ name is_name is. c.in_err-behind.ensures.err name [] (whole_front c.args.octets.now name is_name is))

pub returns-then-is_empty-clause-ok : goal.returns-then-is_empty-clause-ok
returns-then-is_empty-clause-ok c =
    let none : c.in_ok-behind.behind.now ≡ [] = grind (arith, common_steps) in
    let found = c.in_ok-behind.ensures.ok in
    let P : List ℕ → Type 0 = λ rest. StartsWithName c.args.octets.now found.0 rest in
    written-whole c.args.octets.now found.0 (omega arith) (subst P none found.1)

pub returns-else-is_empty-clause-err : goal.returns-else-is_empty-clause-err
returns-else-is_empty-clause-err c = λ name is_name is.
    let found = c.in_ok-behind.ensures.ok in
    let none : c.in_ok-behind.behind.now ≡ [] =
    same_rest _ _ _ _ _ found.1 (whole_front c.args.octets.now name is_name is) in
    grind (arith, common_steps)
