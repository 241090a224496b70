use Rattle.std.proofs.Common.{◌≡◌, ℕ, List, [], ◌++◌, sym, ◌∙◌, subst, rules}
use Rattle.dns_scan.specs.Symbols.{marked}
use Rattle.dns_scan.specs.Token.{Token}
use Rattle.dns_scan.proofs.SymbolsRead.{ReadingEntry, entry_more, entry_end, nil_by, same_names_join}
use Rattle.dns_scan.proofs.scan.scanner.Scanner.convert_entry.Goals as goal

pub loop-self-preserved : goal.loop-self-preserved
loop-self-preserved g c =
    let at = c.loop-self.invariant.0 in
    let read = c.in_ok-convert_marked.ensures.ok in
    let P : List Token → Type 0 = λ l. ReadingEntry (g.Self.Scanner.tokens c.args.self.now) l at.0 in (
      (
        at.0 ++ marked read.0,
        entry_more _ _ _ c.in_ok-text.text.now at.0 read.0 (subst P (sym c.continues.ensures.stays) at.1) _ c.in_ok-text.ensures.ok.1
            c.skip_token.ensures.taken read.1,
        read.2 at.0 at.2,
      ),
      same_names_join _ _ _ (same_names_join _ _ _ c.loop-self.invariant.1 c.continues.ensures.names) c.skip_token.ensures.names,
    )

pub returns-clause-ok : goal.returns-clause-ok
returns-clause-ok g c =
    let at = c.loop-self.invariant.0 in
    let none : g.Self.Scanner.tokens c.loop-self.self ≡ [] =
    nil_by _ (λ some. let true_so = c.continues.ensures.some.1 some in search rules) in
    let P : List ℕ → Type 0 = λ l. g.C.ConvertSymbols.converts at.0 l in (
      (at.0, entry_end _ _ at.0 at.1 none, subst P (sym (c.freeze.ensures ∙ c.in_ok-append_given.ensures.ok)) (c.in_ok-given.ensures.ok at.0 _ at.2)),
      c.continues.ensures.stays ∙ none,
    )
