use Rattle.std.proofs.Common.{◌≡◌, ◌+◌, [], refl, arith, rules}
use Rattle.dns_wire.proofs.Cuts.{cut-step, cut-stepped, cut-pointer, cut-led, cut-led_on, cut-bad_type, cut-here, cut-long}
use Rattle.dns_wire.proofs.Walking.{walks-label, walks-pointer, walks-root, walks-none, walks-long, walks-forward, walks-spent}
use Rattle.dns_wire.proofs.Heads.{to_pointer, bad_type-spells_none, short-spells_none, label-within}
use Rattle.dns_wire.proofs.Flat.{some_octets}
use Rattle.dns_wire.proofs.walk.walk_name.Goals as goal

pub returns-then-len-count-gt254-clause-err : goal.returns-then-len-count-gt254-clause-err
returns-then-len-count-gt254-clause-err c =
    walks-long _ _ c.loop-label.invariant.walks c.in-Ok.ensures.ok
    (some_octets c.in-Ok.label.octets.now (λ e. let bad = c.if-is_root.ensures.1 e in cc)) (omega (arith, c.len.ensures))

pub returns-then-is_root-clause-ok : goal.returns-then-is_root-clause-ok
returns-then-is_root-clause-ok c =
    let none : c.in-Ok.label.octets.now ≡ [] = search rules in
    let found = walks-root _ _ c.unwrap_or-next.result _ c.loop-label.invariant.walks c.in-Ok.ensures.ok none c.unwrap_or-next.ensures refl (omega arith) in
    (found.name, found.reads, found.long)

pub loop-label-preserved-in-Ok : goal.loop-label-preserved-in-Ok
loop-label-preserved-in-Ok c =
    let some = some_octets c.in-Ok.label.octets.now (λ e. let bad = c.if-is_root.ensures.1 e in cc) in
    let long = c.len.ensures in
    let is = c.from-place.ensures in
    record {
      walks = walks-label _ _ _ _ c.loop-label.invariant.walks c.in-Ok.ensures.ok some (omega arith) (omega arith);
      cut_on = λ cut. c.loop-label.invariant.cut_on
          (cut-step _ _ (c.len.result + 1) _ _ c.in-Ok.ensures.ok some (omega arith) (omega arith) (omega arith) (omega arith) cut);
      cut_back = λ cut. cut-stepped _ _ (c.len.result + 1) _ _ (c.loop-label.invariant.cut_back cut) c.in-Ok.ensures.ok some (omega arith) (omega arith) (omega arith);
      within = omega (arith, label-within _ _ _ _ c.in-Ok.ensures.ok c.loop-label.invariant.within);
      few = omega arith;
    }

pub returns-then-target-place-clause-err : goal.returns-then-target-place-clause-err
returns-then-target-place-clause-err c =
    walks-forward _ c.loop-label.invariant.walks (to_pointer _ c.in-Err-Pointer.ensures.err c.in-Err-Pointer.field-0-is) (omega (arith, c.from-target.ensures))

pub returns-then-left-eq0-clause-err : goal.returns-then-left-eq0-clause-err
returns-then-left-eq0-clause-err c =
    walks-spent _ c.loop-label.invariant.walks (to_pointer _ c.in-Err-Pointer.ensures.err c.in-Err-Pointer.field-0-is) (omega arith)

pub loop-label-preserved : goal.loop-label-preserved
loop-label-preserved c =
    let is = c.from-target.ensures in
    record {
      walks = rw (c.from-target.ensures, c.unwrap_or.ensures)
          (walks-pointer _ _ c.loop-label.invariant.walks (to_pointer _ c.in-Err-Pointer.ensures.err c.in-Err-Pointer.field-0-is) (omega arith) (omega arith));
      cut_on = rw c.from-target.ensures
          (λ cut. c.loop-label.invariant.cut_on
          (cut-pointer _ _ _ _ _ (to_pointer _ c.in-Err-Pointer.ensures.err c.in-Err-Pointer.field-0-is) (omega arith) (omega arith) cut));
      cut_back = rw c.from-target.ensures
          (λ cut. cut-led_on _ _ (c.loop-label.invariant.cut_back cut) (to_pointer _ c.in-Err-Pointer.ensures.err c.in-Err-Pointer.field-0-is) (omega arith));
      within = omega (arith, c.loop-label.invariant.within);
      few = c.loop-label.invariant.few;
    }

pub returns-in-Err-BadType-clause-err : goal.returns-in-Err-BadType-clause-err
returns-in-Err-BadType-clause-err c =
    walks-none c.loop-label.invariant.walks (λ name after spelled. bad_type-spells_none c.in-Err-BadType.ensures.err c.in-Err-BadType.field-0-is spelled)

pub returns-in-Err-ShortInput-clause-err : goal.returns-in-Err-ShortInput-clause-err
returns-in-Err-ShortInput-clause-err c =
    walks-none c.loop-label.invariant.walks (λ name after spelled. short-spells_none c.in-Err-ShortInput.ensures.err c.in-Err-ShortInput.field-0-is spelled)

pub returns-then-len-count-gt254-clause-short : goal.returns-then-len-count-gt254-clause-short
returns-then-len-count-gt254-clause-short c =
    (λ is. cc, λ cut. absurd (cut-long _ _ (c.loop-label.invariant.cut_back cut) c.in-Ok.ensures.ok (omega (arith, c.len.ensures))))

pub returns-then-target-place-clause-short : goal.returns-then-target-place-clause-short
returns-then-target-place-clause-short c = (
  λ is. cc,
  λ cut.
      let led = cut-led _ (c.loop-label.invariant.cut_back cut) (to_pointer _ c.in-Err-Pointer.ensures.err c.in-Err-Pointer.field-0-is) in
      absurd (omega (arith, led.back, c.from-target.ensures)),
)

pub returns-then-left-eq0-clause-short : goal.returns-then-left-eq0-clause-short
returns-then-left-eq0-clause-short c = (
  λ is. cc,
  λ cut.
      let led = cut-led _ (c.loop-label.invariant.cut_back cut) (to_pointer _ c.in-Err-Pointer.ensures.err c.in-Err-Pointer.field-0-is) in
      absurd (omega (arith, led.more)),
)

pub returns-in-Err-BadType-clause-short : goal.returns-in-Err-BadType-clause-short
returns-in-Err-BadType-clause-short c =
    (λ is. cc, λ cut. absurd (cut-bad_type c.in-Err-BadType.ensures.err c.in-Err-BadType.field-0-is (c.loop-label.invariant.cut_back cut)))

pub returns-in-Err-ShortInput-clause-short : goal.returns-in-Err-ShortInput-clause-short
returns-in-Err-ShortInput-clause-short c =
    (λ is. c.loop-label.invariant.cut_on (cut-here c.in-Err-ShortInput.ensures.err c.in-Err-ShortInput.field-0-is), λ cut. refl)
