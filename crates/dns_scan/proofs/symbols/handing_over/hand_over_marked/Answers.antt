use Rattle.std.proofs.Common.{◌≡◌, List, [], ◌∷◌, ◌++◌, map, sym, ◌∙◌, ap, subst, arith, of_calls}
use Rattle.std.proofs.lemmas.Fn.{FoldsTo-push}
use Rattle.std.proofs.lemmas.Grind.{common_steps}
use Rattle.std.proofs.lemmas.Result.{err_from_is_err_and}
use Rattle.dns_scan.specs.declared.symbols.entry_symbol.EntrySymbol.{EntrySymbol}
use Rattle.dns_scan.specs.declared.symbols.entry_symbol.EntrySymbol.TheVariants.{Symbol as Within, EndOfToken}
use Rattle.dns_scan.specs.Symbols.{TakesAll, marked}
use Rattle.dns_scan.proofs.SymbolsRead.{symbols_more, symbols_next, symbols_end, symbols_none, written_one, within_push, marked_more}
use Rattle.dns_scan.proofs.symbols.handing_over.hand_over_marked.Goals as goal

pub returns-in_default-clause-err : goal.returns-in_default-clause-err
returns-in_default-clause-err g c = λ symbols are.
    let some : c.loop-rest.rest.now ≡ [] → ⊥ = λ none. grind (arith, common_steps) in
    absurd (symbols_none _ _ _ c.loop-rest.invariant.0.1 some c.in_default.ensures.none symbols are)

pub returns-in_err-op-clause-err : goal.returns-in_err-op-clause-err
returns-in_err-op-clause-err g c =
    let p = err_from_is_err_and c.from_residual.result c.from_residual.ensures.1 in
    rw (p.1, p.2)
    (λ symbols are.
    let at = c.loop-rest.invariant.0 in
    let found = c.in-Some.ensures.found in
    let next = symbols_next _ _ _ _ c.in-Some.symbol at.1 found.0 found.1 symbols are in
    record {
      front = map Within at.0;
      symbol = Within c.in-Some.symbol;
      others = marked next.0;
      is = ap marked next.1 ∙ marked_more at.0 next.0 c.in-Some.symbol;
      before = c.loop-rest.op;
      takes = at.2;
      after = c.op.new.self;
      refuses = c.in_err-op.ensures;
    })

pub returns-in_err-op-clause-own : goal.returns-in_err-op-clause-own
returns-in_err-op-clause-own g c =
    let p = err_from_is_err_and c.from_residual.result c.from_residual.ensures.1 in
    rw (p.1, p.2) (λ never. absurd (never _ _ _ c.in_err-op.ensures))

pub returns-in_err-op-2-clause-own : goal.returns-in_err-op-2-clause-own
returns-in_err-op-2-clause-own g c =
    let p = err_from_is_err_and c.from_residual-in_err-op-2.result c.from_residual-in_err-op-2.ensures.1 in
    rw (p.1, p.2) (λ never. absurd (never _ _ _ c.in_err-op-2.ensures))

pub loop-rest-preserved : goal.loop-rest-preserved
loop-rest-preserved g c =
    let at = c.loop-rest.invariant.0 in
    let found = c.in-Some.ensures.found in
    let P : List EntrySymbol → Type 0 = λ l. TakesAll (goal.F-step g) c.args.op l c.op.new.self in (
      (
        at.0 ++ c.in-Some.symbol ∷ [],
        symbols_more _ _ _ _ c.in-Some.symbol at.1 found.0 found.1,
        subst P (sym (within_push at.0 c.in-Some.symbol)) (FoldsTo-push _ _ _ _ _ _ at.2 c.in_ok-op.ensures),
      ),
      search of_calls,
    )

pub returns-in_err-op-2-clause-err : goal.returns-in_err-op-2-clause-err
returns-in_err-op-2-clause-err g c =
    let p = err_from_is_err_and c.from_residual-in_err-op-2.result c.from_residual-in_err-op-2.ensures.1 in
    rw (p.1, p.2)
    (λ symbols are.
    let at = c.loop-rest.invariant.0 in
    let none : c.loop-rest.rest.now ≡ [] = grind (arith, common_steps) in
    record {
      front = map Within at.0;
      symbol = EndOfToken;
      others = [];
      is = ap marked (written_one _ _ symbols (symbols_end _ _ _ at.1 none) are);
      before = c.loop-rest.op;
      takes = at.2;
      after = c.op-2.new.self;
      refuses = c.in_err-op-2.ensures;
    })

pub returns-clause-ok : goal.returns-clause-ok
returns-clause-ok g c =
    let at = c.loop-rest.invariant.0 in
    let none : c.loop-rest.rest.now ≡ [] = grind (arith, common_steps) in
    ((at.0, symbols_end _ _ _ at.1 none, FoldsTo-push _ _ _ _ _ _ at.2 c.in_ok-op-2.ensures), search of_calls)
