use Rattle.std.proofs.Common.{◌^◌, ap, arith}
use Rattle.zone_canonical.proofs.KeyDigits.{half_inside}
use Rattle.zone_canonical.proofs.owner_key.Digits.next_half.Goals as goal

pub returns-clause-digits : goal.returns-clause-digits
returns-clause-digits c = λ left.
    half_inside c.args.self.now.label.now c.split_at.result.0.now c.split_at.result.1.now _ left _ c.split_at.ensures.front_len
    c.split_at.ensures.by_index.0 (c.number_of.ensures.digits left c.split_at.result.1.now _)

pub returns-clause-within : goal.returns-clause-within
returns-clause-within c = omega (arith, c.number_of.ensures.within, ap (λ n. 512 ^ n) c.split_at.ensures.front_len)
