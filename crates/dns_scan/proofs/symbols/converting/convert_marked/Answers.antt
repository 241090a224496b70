use Rattle.std.proofs.Common.{◌≡◌, ℕ, List, [], ◌∷◌, ◌++◌, map, ◌∙◌, ap, sym, subst, arith, append_assoc}
use Rattle.std.proofs.lemmas.Grind.{common_steps}
use Rattle.std.proofs.lemmas.Result.{err_from_is_err_and}
use Rattle.dns_scan.specs.declared.symbols.entry_symbol.EntrySymbol.{EntrySymbol}
use Rattle.dns_scan.specs.declared.symbols.entry_symbol.EntrySymbol.TheVariants.{Symbol as Within, EndOfToken}
use Rattle.dns_scan.specs.Converted.{octets_given}
use Rattle.dns_scan.specs.Symbols.{marked}
use Rattle.dns_scan.proofs.Tokens.{on_ok_map}
use Rattle.dns_scan.proofs.SymbolsRead.{symbols_more, symbols_next, symbols_end, symbols_none, written_one, within_push, marked_within, marked_whole}
use Rattle.dns_scan.proofs.symbols.converting.convert_marked.Goals as goal

pub returns-in_default-clause-err : goal.returns-in_default-clause-err
returns-in_default-clause-err g c = λ short front taken symbols more octets are is.
    let some : c.loop-rest.rest.now ≡ [] → ⊥ = λ none. grind (arith, common_steps) in
    symbols_none _ _ _ c.loop-rest.invariant.1 some c.in_default.ensures.none symbols are

pub returns-in_err-given-clause-err : goal.returns-in_err-given-clause-err
returns-in_err-given-clause-err g c =
    let p = err_from_is_err_and c.from_residual.result c.from_residual.ensures.1 in
    rw (p.1, p.2)
    (λ short front taken symbols more octets are is.
    let at = c.loop-rest.invariant in
    let found = c.in-Some.ensures.found in
    let next = symbols_next _ _ _ _ c.in-Some.symbol at.1 found.0 found.1 symbols are in
    let P : List EntrySymbol → Type 0 = λ l. g.C.ConvertSymbols.converts l octets in
    c.in_err-given.ensures.err short (front ++ map Within at.0) _ (at.2 front taken) (marked next.0 ++ more) octets
    (subst P (marked_within front symbols at.0 next.0 more c.in-Some.symbol next.1) is))

pub loop-rest-preserved : goal.loop-rest-preserved
loop-rest-preserved g c =
    let at = c.loop-rest.invariant in
    let found = c.in-Some.ensures.found in (
      at.0 ++ c.in-Some.symbol ∷ [],
      symbols_more _ _ _ _ c.in-Some.symbol at.1 found.0 found.1,
      λ front taken.
          let P : List ℕ → Type 0 = λ l. g.C.ConvertSymbols.has_taken c.process_symbol.new.self (front ++ map Within (at.0 ++ c.in-Some.symbol ∷ [])) l in
          let all = g.Builder.Octets.list c.loop-rest.builder ++ octets_given g.C.Converted.Octets.list c.in_ok-given.given in
          let Q : List EntrySymbol → Type 0 = λ s. g.C.ConvertSymbols.has_taken c.process_symbol.new.self s all in
          subst P (sym c.in_ok-append_given.ensures.ok)
          (subst Q (append_assoc front (map Within at.0) (Within c.in-Some.symbol ∷ []) ∙ ap (λ l. front ++ l) (sym (within_push at.0 c.in-Some.symbol)))
          (c.in_ok-given.ensures.ok (front ++ map Within at.0) _ (at.2 front taken))),
    )

pub returns-in_err-given-2-clause-err : goal.returns-in_err-given-2-clause-err
returns-in_err-given-2-clause-err g c =
    let p = err_from_is_err_and c.from_residual-in_err-given-2.result c.from_residual-in_err-given-2.ensures.1 in
    rw (p.1, p.2)
    (λ short front taken symbols more octets are is.
    let at = c.loop-rest.invariant in
    let none : c.loop-rest.rest.now ≡ [] = grind (arith, common_steps) in
    let one = written_one _ _ symbols (symbols_end _ _ _ at.1 none) are in
    let P : List EntrySymbol → Type 0 = λ l. g.C.ConvertSymbols.converts l octets in
    c.in_err-given-2.ensures.err short (front ++ map Within at.0) _ (at.2 front taken) more octets
    (subst P (marked_whole front symbols at.0 more one) is))

pub returns-clause-ok : goal.returns-clause-ok
returns-clause-ok g c =
    let at = c.loop-rest.invariant in
    let none : c.loop-rest.rest.now ≡ [] = grind (arith, common_steps) in
    on_ok_map c.append_given-2.result _ _
    (λ appended. (
      at.0,
      symbols_end _ _ _ at.1 none,
      λ front taken.
          let P : List ℕ → Type 0 = λ l. g.C.ConvertSymbols.has_taken c.process_symbol-2.new.self (front ++ marked at.0) l in
          let all = g.Builder.Octets.list c.loop-rest.builder ++ octets_given g.C.Converted.Octets.list c.in_ok-given-2.given in
          let Q : List EntrySymbol → Type 0 = λ s. g.C.ConvertSymbols.has_taken c.process_symbol-2.new.self s all in
          subst P (sym appended)
          (subst Q (append_assoc front (map Within at.0) (EndOfToken ∷ [])) (c.in_ok-given-2.ensures.ok (front ++ map Within at.0) _ (at.2 front taken))),
    )) c.append_given-2.ensures.ok
