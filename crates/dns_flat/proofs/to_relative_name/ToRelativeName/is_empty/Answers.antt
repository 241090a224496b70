use Rattle.std.proofs.Common.{◌≡◌, List, ℕ, length, ap, rules, ◌∙◌, sym}
use borrow.Author.Tests.{tests}
use Rattle.dns_wire.proofs.Orders.{no_labels}
use Rattle.dns_flat.proofs.to_relative_name.ToRelativeName.is_empty.Goals as goal

pub returns : goal.returns
returns g c =
    let labels = g.Self.ToLabelIter.labels c.args.self.now in (
      λ yes. no_labels labels (let none : c.count_labels.result ≡ 0 = search (rules, tests) in sym c.count_labels.ensures.count ∙ none),
      λ none. let zero : c.count_labels.result ≡ 0 = c.count_labels.ensures.count ∙ ap (length {A = List ℕ}) none in search (rules, tests),
    )
