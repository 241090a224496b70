use Rattle.std.proofs.Common.{◌≡◌, ◌+◌, ◌≤◌, List, ℕ, [], length, ap, arith, rules}
use Rattle.dns_label.specs.Name.{labels_wire}
use Rattle.dns_flat.proofs.Chains.{before_less, before_step}
use Rattle.dns_flat.proofs.chain.len_before_root.Goals as goal

pub overflow_add-len-in-loop-label : goal.overflow_add-len-in-loop-label
overflow_add-len-in-loop-label g c =
    let some : c.in-Some.label.octets.now ≡ [] → ⊥ = λ none. let bad = c.if-is_root.ensures.1 none in cc in
    let step = before_step c.in-Some.ensures.steps some in
    let all = ap (λ (l : List (List ℕ)). length (labels_wire l)) c.iter_labels-label-items.ensures.labels in
    let small : c.loop-label.len + (c.len.result + 1) ≤ 255 =
    omega (arith, c.len.ensures, c.loop-label.invariant, before_less (g.N.ToLabelIter.labels c.args.name.now), c.iter_labels-label-items.ensures.short) in
    search rules

pub returns-in-None-clause-short : goal.returns-in-None-clause-short
returns-in-None-clause-short g c =
    let all = ap (λ (l : List (List ℕ)). length (labels_wire l)) c.iter_labels-label-items.ensures.labels in
    omega (arith, c.loop-label.invariant, before_less (g.N.ToLabelIter.labels c.args.name.now), c.iter_labels-label-items.ensures.short)

pub returns-then-is_root-clause-short : goal.returns-then-is_root-clause-short
returns-then-is_root-clause-short g c =
    let all = ap (λ (l : List (List ℕ)). length (labels_wire l)) c.iter_labels-label-items.ensures.labels in
    omega (arith, c.loop-label.invariant, before_less (g.N.ToLabelIter.labels c.args.name.now), c.iter_labels-label-items.ensures.short)
