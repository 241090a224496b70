use Rattle.std.proofs.Common.{◌≡◌, ◌-◌, List, ℕ, length, drop, ◌∙◌, arith, ap₂}
use Rattle.std.specs.Ordering.{nat_cmp}
use Rattle.dns_wire.proofs.Orders.{order_aligned, aligned}
use Rattle.dns_wire.proofs.compare.cmp_labels.Goals as goal
use Rattle.dns_wire.proofs.compare.cmp_labels.Goals.{After-cmp}

pub returns : goal.returns
returns g c =
    let name = g.N.ToLabelIter.labels c.args.name.now in
    let other = g.B.ToLabelIter.labels c.args.other.now in
    let n : c.saturating_sub.result ≡ length name - length other = omega (arith, c.saturating_sub.ensures, c.count_labels-count.ensures.count, c.count_labels-other_count.ensures.count) in
    let m : c.saturating_sub-2.result ≡ length other - length name = omega (arith, c.saturating_sub-2.ensures, c.count_labels-count.ensures.count, c.count_labels-other_count.ensures.count) in
    order_aligned name other c.behind-labels.result c.behind-others.result c.cmp_aligned.result c.cmp.result
    (c.behind-labels.ensures ∙ ap₂ (drop {A = List ℕ}) n c.iter_labels.ensures.labels)
    (c.behind-others.ensures ∙ ap₂ (drop {A = List ℕ}) m c.iter_labels-2.ensures.labels)
    (c.cmp.ensures ∙ ap₂ nat_cmp c.count_labels-count.ensures.count c.count_labels-other_count.ensures.count)
    c.cmp_aligned.ensures

pub cmp_aligned-requires : goal.cmp_aligned-requires
cmp_aligned-requires g c =
    let name = g.N.ToLabelIter.labels c.args.name.now in
    let other = g.B.ToLabelIter.labels c.args.other.now in
    let n : c.saturating_sub.result ≡ length name - length other = omega (arith, c.saturating_sub.ensures, c.count_labels-count.ensures.count, c.count_labels-other_count.ensures.count) in
    let m : c.saturating_sub-2.result ≡ length other - length name = omega (arith, c.saturating_sub-2.ensures, c.count_labels-count.ensures.count, c.count_labels-other_count.ensures.count) in
    aligned name other c.behind-labels.result c.behind-others.result
    (c.behind-labels.ensures ∙ ap₂ (drop {A = List ℕ}) n c.iter_labels.ensures.labels)
    (c.behind-others.ensures ∙ ap₂ (drop {A = List ℕ}) m c.iter_labels-2.ensures.labels)
