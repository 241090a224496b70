use Rattle.std.proofs.Common.{◌≡◌, suc, length, ◌+◌, ◌*◌, ◌^◌, ◌∷◌, get_or, ap, arith}
use Rattle.zone_canonical.proofs.KeyDigits.{half_fits, key_more, number_all, number_more, number_none}
use Rattle.zone_canonical.proofs.owner_key.number_of.Goals as goal

pub loop-octet-init : goal.loop-octet-init
loop-octet-init c = record {
  fits = omega arith;
  digits = λ left label labels. number_none c.args.octets.now label labels left;
}

pub overflow_mul-number : goal.overflow_mul-number
overflow_mul-number c =
    let l = c.loop-octet in
    omega (arith, half_fits (l.number * 512 + 0) (l.octet-index + 1) (key_more l.number 0 l.octet-index l.invariant.fits (omega arith)) (omega arith))

pub overflow_add-number : goal.overflow_add-number
overflow_add-number c =
    let l = c.loop-octet in
    omega (
      arith,
      half_fits (l.number * 512 + c.digit_of.result) (l.octet-index + 1)
          (key_more l.number c.digit_of.result l.octet-index l.invariant.fits c.digit_of.ensures.within) (omega arith),
    )

pub loop-octet-preserved : goal.loop-octet-preserved
loop-octet-preserved c =
    let l = c.loop-octet in
    record {
      fits = key_more l.number c.digit_of.result l.octet-index l.invariant.fits c.digit_of.ensures.within;
      digits = λ left label labels.
          number_more c.args.octets.now label labels l.octet-index l.number c.digit_of.result left (omega arith) c.digit_of.ensures.digit
          c.digit_of.ensures.within (l.invariant.digits (suc left) (get_or c.args.octets.now l.octet-index 0 ∷ label) labels);
    }

pub returns-clause-digits : goal.returns-clause-digits
returns-clause-digits c = λ left label labels.
    number_all c.args.octets.now label labels c.loop-octet.octet-index left _ (omega arith) (c.loop-octet.invariant.digits left label labels)

pub returns-clause-within : goal.returns-clause-within
returns-clause-within c =
    omega (arith, c.loop-octet.invariant.fits, ap (λ n. 512 ^ n) (let e : c.loop-octet.octet-index ≡ length c.args.octets.now = omega arith in e))
