use Rattle.std.proofs.Common.{◌≡◌, [], ◌∷◌, ◌++◌, arith, of_calls}
use Rattle.std.proofs.lemmas.Fn.{FoldsTo-push}
use Rattle.std.proofs.lemmas.Grind.{common_steps}
use Rattle.std.proofs.lemmas.Result.{err_from_is_err_and}
use Rattle.dns_scan.proofs.SymbolsRead.{symbols_more, symbols_next, symbols_end, symbols_none}
use Rattle.dns_scan.proofs.symbols.handing_over.hand_over.Goals as goal

pub returns-in_default-clause-err : goal.returns-in_default-clause-err
returns-in_default-clause-err g c = λ symbols are.
    let some : c.loop-rest.rest.now ≡ [] → ⊥ = λ none. grind (arith, common_steps) in
    absurd (symbols_none _ _ _ c.loop-rest.invariant.0.1 some c.in_default.ensures.none symbols are)

pub returns-in_err-op-clause-err : goal.returns-in_err-op-clause-err
returns-in_err-op-clause-err g c =
    let p = err_from_is_err_and c.from_residual.result c.from_residual.ensures.1 in
    rw (p.1, p.2)
    (λ symbols are.
    let at = c.loop-rest.invariant.0 in
    let found = c.in-Some.ensures.found in
    let next = symbols_next _ _ _ _ c.in-Some.symbol at.1 found.0 found.1 symbols are in
    record {
      front = at.0;
      symbol = c.in-Some.symbol;
      others = next.0;
      is = next.1;
      before = c.loop-rest.op;
      takes = at.2;
      after = c.op.new.self;
      refuses = c.in_err-op.ensures;
    })

pub returns-in_err-op-clause-own : goal.returns-in_err-op-clause-own
returns-in_err-op-clause-own g c =
    let p = err_from_is_err_and c.from_residual.result c.from_residual.ensures.1 in
    rw (p.1, p.2) (λ never. absurd (never _ _ _ c.in_err-op.ensures))

pub loop-rest-preserved : goal.loop-rest-preserved
loop-rest-preserved g c =
    let at = c.loop-rest.invariant.0 in
    let found = c.in-Some.ensures.found in (
      (
        at.0 ++ c.in-Some.symbol ∷ [],
        symbols_more _ _ _ _ c.in-Some.symbol at.1 found.0 found.1,
        FoldsTo-push _ _ _ _ _ _ at.2 c.in_ok-op.ensures,
      ),
      search of_calls,
    )

pub returns-clause-ok : goal.returns-clause-ok
returns-clause-ok g c =
    let at = c.loop-rest.invariant.0 in
    let none : c.loop-rest.rest.now ≡ [] = grind (arith, common_steps) in
    ((at.0, symbols_end _ _ _ at.1 none, at.2), c.loop-rest.invariant.1)
