use Rattle.std.proofs.Common.{◌≡◌, ◌+◌, ◌≤◌, length, arith, refl}
use Rattle.dns_flat.proofs.PartForms.{start_on, start_back, start_none, start_at}
use Rattle.dns_flat.proofs.relative.parts.starts_label.Goals as goal

pub returns-in_default : goal.returns-in_default
returns-in_default c = (
  λ bad. cc,
  λ start. absurd (start_none c.in_default.ensures.none (omega arith) (c.loop-left.invariant.back start)),
)

pub returns-in_default-checked_sub : goal.returns-in_default-checked_sub
returns-in_default-checked_sub c = (
  λ bad. cc,
  λ start.
      let few = (start_back {left = 0} c.in-Some.ensures.some (omega arith) (c.loop-left.invariant.back start)).0 in
      let over : c.len.result + 1 ≤ c.loop-left.left → ⊥ = c.in_default-checked_sub.ensures in
      absurd (omega (arith, c.len.ensures)),
)

pub loop-left-preserved : goal.loop-left-preserved
loop-left-preserved c =
    let left : c.loop-left.left ≡ c.in-Some-checked_sub.more + (length c.in-Some.label.octets.now + 1) =
    omega (arith, c.len.ensures, c.in-Some-checked_sub.ensures) in
    record {
      are = c.in-Some.ensures.left;
      on = λ start. c.loop-left.invariant.on (start_on c.in-Some.ensures.some left start);
      back = λ start. (start_back c.in-Some.ensures.some (omega arith) (c.loop-left.invariant.back start)).1 left;
    }

pub returns : goal.returns
returns c = (
  λ yes. c.loop-left.invariant.on (start_at _ _ (omega arith)),
  λ start. refl,
)
