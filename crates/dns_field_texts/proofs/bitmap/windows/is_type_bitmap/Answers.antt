use Rattle.std.proofs.Common.{◌≡◌, [], length, arith, ap}
use Rattle.std.proofs.lemmas.Bool.Decides.{nat_tests}
use Rattle.std.proofs.lemmas.List.{nil_from_length}
use Rattle.dns_field_texts.proofs.HashWords.{false_true}
use Rattle.dns_field_texts.proofs.TypeWindows.{bitmap_cons, bitmap_uncons, bitmap_end, bitmap_nil}
use Rattle.dns_field_texts.proofs.bitmap.windows.is_type_bitmap.Goals as goal

pub returns-then-not-can_follow : goal.returns-then-not-can_follow
returns-then-not-can_follow c = (
  λ is. absurd (false_true is),
  λ bitmap.
      let follows = bitmap_uncons c.loop-number.low c.in-Some.number c.loop-number.left.now c.in-Some.window.now c.in-Some.behind.now
      c.in-Some.ensures.some (c.loop-number.invariant.back bitmap) in
      absurd (c.if-not-can_follow.ensures.no false_true follows.from follows.are),
)

pub loop-number-preserved : goal.loop-number-preserved
loop-number-preserved c =
    let number = c.in-Some.number in
    let begins = c.in-Some.ensures.some in
    let can = c.can_follow.ensures.yes c.if-not-can_follow.false in
    let small = begins.small in
    rw c.from-low.ensures
    (record {
      small = omega (arith, small);
      there = λ rest.
          c.loop-number.invariant.there
          (bitmap_cons c.loop-number.low number c.loop-number.left.now c.in-Some.window.now c.in-Some.behind.now begins can.0 can.1 rest);
      back = λ bitmap.
          let follows = bitmap_uncons c.loop-number.low number c.loop-number.left.now c.in-Some.window.now c.in-Some.behind.now begins
          (c.loop-number.invariant.back bitmap) in follows.rest;
    })

pub returns : goal.returns
returns c = (
  λ is.
      c.loop-number.invariant.there (bitmap_nil c.loop-number.low c.loop-number.left.now (nil_from_length _ (grind (arith, nat_tests)))),
  λ bitmap.
      let none : c.loop-number.left.now ≡ [] =
      bitmap_end c.loop-number.low c.loop-number.left.now (c.loop-number.invariant.back bitmap) c.in_default.ensures.none in
      let long : length c.loop-number.left.now ≡ 0 = ap length none in
      grind (arith, nat_tests),
)
