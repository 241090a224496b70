use Rattle.std.proofs.Common.{sym, ◌∙◌, arith}
use Rattle.dns_scan.proofs.Tokens.{told, tells, none_left, all_taken}
use Rattle.dns_scan.proofs.scan.iter_scanner.IterScanner.is_exhausted.Goals as goal

pub returns : goal.returns
returns c =
    let whole = c.self.inside.texts.ok in
    let count = c.len.ensures in (
      λ test. let here = told _ _ test in sym c.self.view_is ∙ none_left c.self.inside.texts.items c.self.inside.place (omega arith),
      λ none.
          let here = all_taken c.self.inside.texts.items c.self.inside.place c.self.invariant (c.self.view_is ∙ none) in
          tells _ _ (omega arith),
    )
