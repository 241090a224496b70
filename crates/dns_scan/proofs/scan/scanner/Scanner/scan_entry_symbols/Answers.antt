use Rattle.std.proofs.Common.{◌≡◌, List, [], ◌++◌, refl, sym, ◌∙◌, subst, rules}
use Rattle.std.proofs.lemmas.Result.{err_from_is_err_and}
use Rattle.dns_scan.specs.Symbols.{marked}
use Rattle.dns_scan.specs.Token.{Token}
use Rattle.dns_scan.proofs.SymbolsRead.{ReadingEntry, entry_here, entry_more, entry_next, entry_end, folds_join, refused_later, nil_by, same_names_here, same_names_join}
use Rattle.dns_scan.proofs.scan.scanner.Scanner.scan_entry_symbols.Goals as goal

pub loop-self-init : goal.loop-self-init
loop-self-init g c = (([], entry_here _, refl), c.requires, same_names_here _)

pub returns-in_err-op-clause-err : goal.returns-in_err-op-clause-err
returns-in_err-op-clause-err g c =
    let p = err_from_is_err_and c.from_residual-in_err-op.result c.from_residual-in_err-op.ensures.1 in
    rw (p.1, p.2)
    (λ symbols entry.
    let at = c.loop-self.invariant.0 in
    let P : List Token → Type 0 = λ l. ReadingEntry (g.Self.Scanner.tokens c.args.self.now) l at.0 in
    let next = entry_next _ _ _ _ at.0 (subst P (sym c.continues.ensures.stays) at.1) c.in_ok-text.ensures.ok.1 symbols entry in
    refused_later _ c.args.op c.loop-self.op symbols at.0 (marked next.0) next.1 _ at.2 next.3 (c.in_err-op.ensures.err next.0 next.2))

pub loop-self-preserved : goal.loop-self-preserved
loop-self-preserved g c =
    let at = c.loop-self.invariant.0 in
    let taken = c.in_ok-op.ensures.ok in
    let P : List Token → Type 0 = λ l. ReadingEntry (g.Self.Scanner.tokens c.args.self.now) l at.0 in (
      (
        at.0 ++ marked taken.0.0,
        entry_more _ _ _ c.in_ok-text.text.now at.0 taken.0.0 (subst P (sym c.continues.ensures.stays) at.1) _ c.in_ok-text.ensures.ok.1
            c.skip_token.ensures.taken taken.0.1,
        folds_join _ c.args.op c.loop-self.op c.in_ok-op.op at.0 (marked taken.0.0) at.2 taken.0.2,
      ),
      taken.1,
      same_names_join _ _ _ (same_names_join _ _ _ c.loop-self.invariant.2 c.continues.ensures.names) c.skip_token.ensures.names,
    )

pub returns-clause-ok : goal.returns-clause-ok
returns-clause-ok g c =
    let at = c.loop-self.invariant.0 in
    let none : g.Self.Scanner.tokens c.loop-self.self ≡ [] =
    nil_by _ (λ some. let true_so = c.continues.ensures.some.1 some in search rules) in
    ((at.0, c.loop-self.op, entry_end _ _ at.0 at.1 none, at.2), c.continues.ensures.stays ∙ none)
