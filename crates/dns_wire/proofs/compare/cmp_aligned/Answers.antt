use Rattle.std.proofs.Common.{◌≡◌, List, ℕ, length, ◌∙◌, arith, ap, ap₂}
use Rattle.std.specs.Ordering.{ordering_then}
use Rattle.dns_wire.specs.Order.{label_order}
use Rattle.dns_wire.proofs.Orders.{order_more}
use Rattle.dns_wire.proofs.compare.cmp_aligned.Goals as goal

pub loop-label-preserved : goal.loop-label-preserved
loop-label-preserved g c =
    let even : length c.next.new.self ≡ length c.next-in-Some.new.self =
    omega (arith, c.loop-label.invariant.even, ap (length {A = List ℕ}) c.in-Some.ensures.steps, ap (length {A = List ℕ}) c.in-Some-next.ensures.steps) in
    record {
      even = even;
      same = c.loop-label.invariant.same
          ∙ order_more c.then-order.result c.loop-label.order c.in-Some.ensures.steps c.in-Some-next.ensures.steps even
          (c.then-order.ensures ∙ ap (λ o. ordering_then o c.loop-label.order) (c.cmp_octets.ensures ∙ ap₂ label_order c.as_slice.ensures c.as_slice-in-Some.ensures));
    }
