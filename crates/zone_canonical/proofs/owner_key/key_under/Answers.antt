use Rattle.std.proofs.Common.{◌+◌, ◌*◌, ◌∙◌, arith}
use Rattle.zone_canonical.proofs.KeyDigits.{halves_all}
use Rattle.zone_canonical.proofs.owner_key.key_under.Goals as goal

pub overflow_mul-result : goal.overflow_mul-result
overflow_mul-result c = omega (arith, c.next_half-high.ensures.within)

pub overflow_add-result : goal.overflow_add-result
overflow_add-result c = omega (arith, c.next_half-high.ensures.within, c.next_half-low.ensures.within)

pub returns : goal.returns
returns c =
    (λ i. c.from.ensures i * 9223372036854775808 + c.from-2.ensures i)
    ∙ halves_all _ c.next_half-high.result c.next_half-low.result _ _ _ (c.next_half-high.ensures.digits 7) (c.next_half-low.ensures.digits 0)
    ∙ c.of_front-digits.ensures
