use Rattle.std.proofs.Common.{◌+◌, ◌^◌, arith, sym, ◌∙◌}
use Rattle.dns_scan.proofs.DigitNumbers.{number_large, number_more, digits_more}
use Rattle.dns_scan.proofs.digits.number_of.Goals as goal

pub loop-place-preserved : goal.loop-place-preserved
loop-place-preserved c =
    let i = c.loop-place.invariant in
    let within = c.loop-place-test.true in
    let digit = sym c.is_ascii_digit.ensures.value ∙ c.if-not-is_ascii_digit.false in
    let text = c.args.digits.now in
    let place = c.loop-place.place in
    (omega arith, digits_more text place within digit i.1, number_more text place _ _ within digit i.2 c.from.ensures, omega arith)

pub returns-then-number-gt4294967295 : goal.returns-then-number-gt4294967295
returns-then-number-gt4294967295 c =
    let i = c.loop-place.invariant in
    let within = c.loop-place-test.true in
    let digit = sym c.is_ascii_digit.ensures.value ∙ c.if-not-is_ascii_digit.false in
    let text = c.args.digits.now in
    let place = c.loop-place.place in
    let more = number_more text place _ _ within digit i.2 c.from.ensures in
    sym (number_large (2 ^ 32) text (place + 1) (rw (← more) (omega arith)))
