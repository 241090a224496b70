use Rattle.std.proofs.Common.{◌≡◌, suc, [], ◌+◌, ◌*◌, ◌^◌, ap, arith}
use Rattle.zone_canonical.proofs.KeyDigits.{across_all, across_first, across_more, half_fits, key_more}
use Rattle.zone_canonical.proofs.owner_key.Digits.next_across.Goals as goal

pub loop-init : goal.loop-init
loop-init c = record {
  fits = c.number_of-number.ensures.within;
  whole = λ more left all.
      across_first c.args.self.now.label.now _ _ more left _ (omega arith) all (c.number_of-number.ensures.digits (more + left) [] _);
}

pub overflow_mul-number : goal.overflow_mul-number
overflow_mul-number c =
    let l = c.loop in
    omega (arith, half_fits (l.number * 512 + 0) (l.counter + 1) (key_more l.number 0 l.counter l.invariant.fits (omega arith)) (omega arith))

pub overflow_add-number : goal.overflow_add-number
overflow_add-number c =
    let l = c.loop in
    omega (
      arith,
      half_fits (l.number * 512 + c.next_digit.result) (l.counter + 1)
          (key_more l.number c.next_digit.result l.counter l.invariant.fits c.next_digit.ensures.within) (omega arith),
    )

pub loop-preserved : goal.loop-preserved
loop-preserved c = record {
  fits = key_more c.loop.number c.next_digit.result c.loop.counter c.loop.invariant.fits c.next_digit.ensures.within;
  whole = λ more left all.
      across_more _ c.loop.number c.next_digit.result more left _ _ _ _ (c.loop.invariant.whole (suc more) left (omega arith))
      (c.next_digit.ensures.digit (more + left));
}

pub returns-clause-digits : goal.returns-clause-digits
returns-clause-digits c = λ left. across_all _ c.loop.number left _ _ (c.loop.invariant.whole 0 left (omega arith))

pub returns-clause-within : goal.returns-clause-within
returns-clause-within c =
    omega (arith, c.loop.invariant.fits, ap (λ n. 512 ^ n) (let all : c.loop.counter ≡ 7 = omega arith in all))
