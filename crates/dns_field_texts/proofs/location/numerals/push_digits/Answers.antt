use Rattle.std.proofs.Common.{◌≡◌, ◌∷◌, ◌+◌, ◌*◌, ◌-◌, ◌<◌, arith, rules}
use Rattle.dns_field_texts.proofs.LocationNumerals.{pushing_high}
use Rattle.dns_field_texts.proofs.location.numerals.push_digits.Goals as goal

pub returns-then-value-most-clause-none : goal.returns-then-value-most-clause-none
returns-then-value-most-clause-none c =
    let high = c.if-value-most.true in
    let digit = c.from.ensures in
    pushing_high c.in-Some.field-0-0.now c.in-Some.behind.now c.loop-digit.invariant (search rules) (search rules) (omega (arith, high, digit))
