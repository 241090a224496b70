use Rattle.std.proofs.Common.{◌≡◌, ◌+◌, ◌≤◌, length, drop, sym, ◌∙◌, arith, ap}
use Rattle.dns_label.specs.Name.{low}
use Rattle.dns_wire.proofs.Case.{ends_on, ends_back, ends_short}
use Rattle.dns_wire.proofs.compare.ends_with.Goals as goal

pub returns-in_default : goal.returns-in_default
returns-in_default g c = (
  λ bad. cc,
  λ ends.
      let few : c.count_labels.result ≤ c.count_labels-count.result → ⊥ = c.in_default.ensures in
      absurd (ends_short (g.N.ToLabelIter.labels c.args.name.now) (g.B.ToLabelIter.labels c.args.end.now)
      (omega (arith, c.count_labels.ensures.count, c.count_labels-count.ensures.count)) ends),
)

pub returns : goal.returns
returns g c =
    let name = g.N.ToLabelIter.labels c.args.name.now in
    let end = g.B.ToLabelIter.labels c.args.end.now in
    let is : c.behind.result ≡ drop c.in-Some.extra name =
    c.behind.ensures ∙ ap (drop c.in-Some.extra) c.iter_labels.ensures.labels in
    let long : c.in-Some.extra + length end ≡ length name =
    omega (arith, c.in-Some.ensures, c.count_labels.ensures.count, c.count_labels-count.ensures.count) in
    let there = ap low c.iter_labels-2.ensures.labels in (
      λ yes. ends_on name c.behind.result end c.in-Some.extra is (c.same_labels.ensures.0 yes ∙ there),
      λ ends. c.same_labels.ensures.1 (ends_back name c.behind.result end c.in-Some.extra is long ends ∙ sym there),
    )
