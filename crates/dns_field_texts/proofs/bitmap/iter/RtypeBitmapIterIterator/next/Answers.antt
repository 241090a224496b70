use Rattle.std.proofs.Common.{◌≡◌, ◌∙◌, sym, []}
use Rattle.dns_field_texts.proofs.TypesLeft.{left_none, left_on}
use Rattle.dns_field_texts.proofs.bitmap.iter.RtypeBitmapIterIterator.next.Goals as goal

pub returns-in_err-number-clause-steps : goal.returns-in_err-number-clause-steps
returns-in_err-number-clause-steps c =
    let ended : c.args.self.now ≡ [] = left_none c.loop-place.invariant c.in_default.ensures.none c.in_err-number.ensures.none in
    rw c.from_residual.ensures (ended, sym c.loop-place.invariant.same ∙ ended)

pub loop-place-preserved : goal.loop-place-preserved
loop-place-preserved c =
    rw c.from.ensures
    (left_on c.in_ok-number.number c.in_ok-number.window.now c.in_ok-number.behind.now c.loop-place.invariant c.in_default.ensures.none
    c.in_ok-number.ensures.some)
