use Rattle.std.proofs.Common.{◌≡◌, ◌∙◌, ap, length, ℕ, List, rules, arith}
use borrow.Author.Tests.{tests}
use Rattle.dns_label.specs.Name.{labels_wire}
use Rattle.dns_wire.proofs.FlatForms.{length-labels_wire}
use Rattle.dns_wire.proofs.Orders.{no_labels}
use Rattle.dns_flat.proofs.relative.RelativeName.is_empty.Goals as goal

pub returns : goal.returns
returns g c =
    let octets = ap (length {A = ℕ}) c.as_slice.ensures.octets in
    let few = length-labels_wire c.args.self.now in (
      λ yes. no_labels c.args.self.now (let none : length c.as_slice.result.now ≡ 0 = search (rules, tests) in omega (arith, few, octets)),
      λ none. let zero : length c.as_slice.result.now ≡ 0 = octets ∙ ap (λ (l : List (List ℕ)). length (labels_wire l)) none in search (rules, tests),
    )
