use Rattle.std.proofs.Common.{◌≡◌, length, ap, ◌∙◌, sym, List, ℕ, rules}
use borrow.Author.Tests.{tests}
use Rattle.dns_label.specs.Name.{wire}
use Rattle.dns_wire.proofs.Readable.{read-root}
use Rattle.dns_name.proofs.parsed.ParsedName.is_root.Goals as goal

pub returns : goal.returns
returns g c = (
  λ yes. read-root _ _ c.args.self.now.reads (let e : c.args.self.now.len ≡ 1 = search (rules, tests) in sym c.args.self.now.counted ∙ e),
  λ none. let e : c.args.self.now.len ≡ 1 = c.args.self.now.counted ∙ ap (λ (n : List (List ℕ)). length (wire n)) none in search (rules, tests),
)
