use Rattle.std.proofs.Common.{◌≤◌, ◌<◌, ◌+◌, ◌*◌, arith}
use Rattle.std.proofs.lemmas.Bool.Decides.{nat_tests}
use Rattle.dns_field_texts.proofs.HashWords.{false_true}
use Rattle.dns_field_texts.proofs.TypesSought.{sought_end, sought_found, sought_here, sought_on}
use Rattle.dns_field_texts.proofs.bitmap.rtype_bitmap.has_type.Goals as goal

pub returns-then-first-from-2 : goal.returns-then-first-from-2
returns-then-first-from-2 c =
    let number = c.in-Some.number in
    let below : c.args.rtype < 256 * number + 256 = omega arith in
    let from : 256 * number ≤ c.args.rtype = omega arith in (
      λ yes.
          sought_found number c.in-Some.window.now c.in-Some.behind.now c.loop-number.invariant c.in-Some.ensures.some below from
          (rw c.from-then-first-from-2.ensures at (c.is_one.ensures.0 yes)),
      λ has.
          c.is_one.ensures.1
          (rw c.from-then-first-from-2.ensures
          (sought_here number c.in-Some.window.now c.in-Some.behind.now c.loop-number.invariant c.in-Some.ensures.some below has).1),
    )

pub returns-else-first-from-2 : goal.returns-else-first-from-2
returns-else-first-from-2 c =
    let number = c.in-Some.number in
    let below : c.args.rtype < 256 * number + 256 = omega arith in (
      λ yes. absurd (grind (arith, nat_tests)),
      λ has.
          let from = (sought_here number c.in-Some.window.now c.in-Some.behind.now c.loop-number.invariant c.in-Some.ensures.some below has).0 in
          absurd (omega (arith, from)),
    )

pub loop-number-preserved : goal.loop-number-preserved
loop-number-preserved c =
    sought_on c.in-Some.number c.in-Some.window.now c.in-Some.behind.now c.loop-number.invariant c.in-Some.ensures.some (omega arith)

pub returns : goal.returns
returns c = (λ is. absurd (false_true is), λ has. absurd (sought_end c.loop-number.invariant c.in_default.ensures.none has))
