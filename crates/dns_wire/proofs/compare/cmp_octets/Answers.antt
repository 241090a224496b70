use Rattle.std.proofs.Common.{◌≡◌, length, sym, ◌∙◌, arith}
use Rattle.dns_wire.proofs.Orders.{order_end, count_end}
use Rattle.dns_wire.proofs.compare.cmp_octets.Goals as goal

pub returns : goal.returns
returns c =
    let at : c.loop-i.i ≡ c.min-count.result = omega arith in
    let end = count_end c.loop-i.i (length c.args.octets.now) (length c.args.others.now) (at ∙ c.min-count.ensures) in
    c.cmp-2.ensures ∙ sym (c.loop-i.invariant ∙ order_end c.args.octets.now c.args.others.now c.loop-i.i end.0 end.1 end.2)
