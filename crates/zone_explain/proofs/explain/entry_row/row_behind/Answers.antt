use Rattle.std.proofs.Common.{◌≡◌, ◌≤◌, ◌∙◌, arith, length, refl}
use Rattle.std.proofs.lemmas.Bool.Decides.{nat_tests}
use Rattle.zone_explain.proofs.EntryRows.{no_row, passes_also, passes_nothing, passes_row}
use Rattle.zone_explain.proofs.explain.entry_row.row_behind.Goals as goal

pub loop-row-init : goal.loop-row-init
loop-row-init c = record { passed = passes_nothing c.args.text.now _ _ (omega arith); most = omega arith; few = omega arith; marked = refl }

pub loop-row-preserved : goal.loop-row-preserved
loop-row-preserved c =
    let none : length c.read_row.new.tokens.items ≡ 0 = grind (arith, nat_tests) in
    record {
      passed = passes_row c.loop-row.invariant.passed (rw c.in-Row.is at c.in_ok-next.ensures) (omega arith);
      most = omega arith;
      few = omega arith;
      marked = c.loop-row.invariant.marked;
    }

pub loop-row-preserved-in_ok-pass : goal.loop-row-preserved-in_ok-pass
loop-row-preserved-in_ok-pass c =
    let some : 1 ≤ length c.read_row.new.tokens.items = grind (arith, nat_tests) in
    record {
      passed = passes_row c.loop-row.invariant.passed (rw c.in-Row.is at c.in_ok-next.ensures) (omega arith);
      most = omega arith;
      few = omega arith;
      marked = c.in_ok-pass.ensures.line ∙ c.loop-row.invariant.marked;
    }

pub returns-then-left-le1-clause-row : goal.returns-then-left-le1-clause-row
returns-then-left-le1-clause-row c =
    let some : 1 ≤ length c.read_row.new.tokens.items = grind (arith, nat_tests) in
    (passes_also c.loop-row.invariant.passed (omega arith), some, (_, rw c.in-Row.is at c.in_ok-next.ensures))

pub returns-in_default-clause-row : goal.returns-in_default-clause-row
returns-in_default-clause-row c = (
  no_row _ _ _ _ c.in_default.not-Row c.in_ok-next.ensures,
  (_, c.loop-row.invariant.passed, omega arith),
)
