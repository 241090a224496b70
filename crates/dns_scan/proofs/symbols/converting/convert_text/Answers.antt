use Rattle.std.proofs.Common.{◌≡◌, ℕ, List, [], ◌∷◌, ◌++◌, sym, subst, arith}
use Rattle.std.proofs.lemmas.Grind.{common_steps}
use Rattle.std.proofs.lemmas.Result.{err_from_is_err_and}
use Rattle.dns_label.specs.declared.symbol.Symbol.{Symbol}
use Rattle.dns_scan.proofs.SymbolsRead.{symbols_more, symbols_next, symbols_end, symbols_none}
use Rattle.dns_scan.proofs.symbols.converting.convert_text.Goals as goal

pub returns-in_default-clause-err : goal.returns-in_default-clause-err
returns-in_default-clause-err g c = λ short symbols octets are is.
    let some : c.loop-rest.rest.now ≡ [] → ⊥ = λ none. grind (arith, common_steps) in
    symbols_none _ _ _ c.loop-rest.invariant.1 some c.in_default.ensures.none symbols are

pub returns-in_err-given-clause-err : goal.returns-in_err-given-clause-err
returns-in_err-given-clause-err g c =
    let p = err_from_is_err_and c.from_residual.result c.from_residual.ensures.1 in
    rw (p.1, p.2)
    (λ short symbols octets are is.
    let at = c.loop-rest.invariant in
    let found = c.in-Some.ensures.found in
    let next = symbols_next _ _ _ _ c.in-Some.symbol at.1 found.0 found.1 symbols are in
    let P : List Symbol → Type 0 = λ l. g.C.ConvertSymbols.converts l octets in
    c.in_err-given.ensures.err short at.0 _ at.2 next.0 octets (subst P next.1 is))

pub loop-rest-preserved : goal.loop-rest-preserved
loop-rest-preserved g c =
    let at = c.loop-rest.invariant in
    let found = c.in-Some.ensures.found in
    let P : List ℕ → Type 0 = λ l. g.C.ConvertSymbols.has_taken c.process_symbol.new.self (at.0 ++ c.in-Some.symbol ∷ []) l in (
      at.0 ++ c.in-Some.symbol ∷ [],
      symbols_more _ _ _ _ c.in-Some.symbol at.1 found.0 found.1,
      subst P (sym c.in_ok-append_given.ensures.ok) (c.in_ok-given.ensures.ok at.0 _ at.2),
    )

pub returns-clause-ok : goal.returns-clause-ok
returns-clause-ok g c =
    let at = c.loop-rest.invariant in
    let none : c.loop-rest.rest.now ≡ [] = grind (arith, common_steps) in (at.0, symbols_end _ _ _ at.1 none, at.2)
