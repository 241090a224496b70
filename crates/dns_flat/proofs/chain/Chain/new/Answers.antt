use Rattle.std.proofs.Common.{◌+◌, ◌≤◌, arith, rules, length-append}
use Rattle.dns_flat.proofs.Chains.{chain_are, are_few, are_short, length-labels_wire-append}
use Rattle.dns_wire.proofs.Wire.{length-wire_is}
use Rattle.dns_flat.proofs.chain.Chain.new.Goals as goal

pub overflow_add-len : goal.overflow_add-len
overflow_add-len g c =
    let left = g.L.ToLabelIter.labels c.args.left in
    let small : c.relative_len.result + c.len_before_root.result ≤ 1000 =
    omega (arith, c.relative_len.ensures.len, c.relative_len.ensures.name.short, length-wire_is left, c.len_before_root.ensures.short) in
    search rules

pub invariant_of-result : goal.invariant_of-result
invariant_of-result g c =
    let left = g.L.ToLabelIter.labels c.args.left in
    let right = g.R.ToLabelIter.labels c.args.right in
    let are = chain_are left right c.relative_len.ensures.name
    (omega (arith, c.relative_len.ensures.len, c.len_before_root.ensures.len)) c.len_before_root.ensures.are in
    let few = are_few _ are in
    let short = are_short _ are in
    record {
      counted = c.count_labels-count.ensures.count;
      are = are;
      few = omega (arith, length-append left right);
      short = omega (arith, length-labels_wire-append left right);
    }
