use Rattle.std.proofs.Common.{◌≡◌, false, true, refl, sym, ◌∙◌}
use Rattle.zone.proofs.read.check_unknown_data.Goals as goal

pub returns-then-branch-clause-ok : goal.returns-then-branch-clause-ok
returns-then-branch-clause-ok c = rw (c.rtype.ensures, c.data.ensures) at (c.in_ok-is_data_of_type.ensures.0 c.if-branch.true)

pub returns-else-branch-clause-err : goal.returns-else-branch-clause-err
returns-else-branch-clause-err c = λ apex. (
  refl,
  (λ is.
      let holds = c.in_ok-is_data_of_type.ensures.1 (rw (← c.rtype.ensures, ← c.data.ensures) at is) in
      let bad : false ≡ true = sym c.if-branch.false ∙ holds in absurd cc),
)
