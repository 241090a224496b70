use Rattle.std.proofs.Common.{◌≡◌, length, ap, ◌∙◌, sym, List, ℕ, rules}
use borrow.Author.Tests.{tests}
use Rattle.dns_label.specs.Name.{wire}
use Rattle.dns_wire.proofs.Wire.{root_length}
use Rattle.dns_flat.proofs.name.Name.is_root.Goals as goal

pub returns : goal.returns
returns g c = (
  λ yes. root_length _ c.len.ensures.name (let e : c.len.result ≡ 1 = search (rules, tests) in sym c.len.ensures.octets ∙ e),
  λ none. let e : c.len.result ≡ 1 = c.len.ensures.octets ∙ ap (λ (n : List (List ℕ)). length (wire n)) none in search (rules, tests),
)
