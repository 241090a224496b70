use Rattle.std.proofs.Common.{◌≡◌, ◌+◌, [], arith, refl}
use Rattle.dns_wire.proofs.Cuts.{cut-label, cut-behind, cut-bad_type, cut-here}
use Rattle.dns_wire.proofs.Flat.{some_octets}
use Rattle.dns_wire.proofs.Heads.{to_pointer, label-within}
use Rattle.dns_wire.proofs.Skipping.{skips-root, skips-pointer, skips-label, skips-behind, skips-bad_type, skips-short, pointer-within}
use Rattle.dns_wire.proofs.skip.skip_name.Goals as goal

pub returns-then-is_root-clause-ok : goal.returns-then-is_root-clause-ok
returns-then-is_root-clause-ok c =
    let none : c.in-Ok.label.octets.now ≡ [] = c.if-is_root.ensures.0 refl in
    c.loop-label.invariant.on _ (skips-root _ _ _ _ _ c.in-Ok.ensures.ok none)

pub loop-label-preserved : goal.loop-label-preserved
loop-label-preserved c =
    let some = some_octets c.in-Ok.label.octets.now (λ e. let bad = c.if-is_root.ensures.1 e in cc) in
    let long = c.len-count.ensures in
    record {
      on = λ next behind. c.loop-label.invariant.on next
          (skips-label _ _ _ _ _ _ _ c.in-Ok.ensures.ok some (omega arith) (omega arith) behind);
      back = λ next skips. (skips-behind _ _ (c.len-count.result + 1) (c.loop-label.invariant.back next skips) c.in-Ok.ensures.ok some (omega arith)).1;
      cut_on = λ cut. c.loop-label.invariant.cut_on (cut-label _ _ _ _ _ c.in-Ok.ensures.ok some (omega arith) (omega arith) cut);
      cut_back = λ cut. (cut-behind _ _ (c.len-count.result + 1) (c.loop-label.invariant.cut_back cut) c.in-Ok.ensures.ok some (omega arith)).1;
      within = omega (arith, label-within _ _ _ _ c.in-Ok.ensures.ok c.loop-label.invariant.within);
    }

pub returns-in-Err-Pointer-clause-ok : goal.returns-in-Err-Pointer-clause-ok
returns-in-Err-Pointer-clause-ok c =
    c.loop-label.invariant.on _ (skips-pointer _ _ _ _ (to_pointer _ c.in-Err-Pointer.ensures.err c.in-Err-Pointer.field-0-is))

pub returns-in-Err-Pointer-clause-within : goal.returns-in-Err-Pointer-clause-within
returns-in-Err-Pointer-clause-within c =
    pointer-within _ _ _ (to_pointer _ c.in-Err-Pointer.ensures.err c.in-Err-Pointer.field-0-is)

pub returns-in-Err-BadType-clause-err : goal.returns-in-Err-BadType-clause-err
returns-in-Err-BadType-clause-err c = λ next skips.
    skips-bad_type c.in-Err-BadType.ensures.err c.in-Err-BadType.field-0-is (c.loop-label.invariant.back next skips)

pub returns-in-Err-ShortInput-clause-err : goal.returns-in-Err-ShortInput-clause-err
returns-in-Err-ShortInput-clause-err c = λ next skips.
    skips-short c.in-Err-ShortInput.ensures.err c.in-Err-ShortInput.field-0-is (c.loop-label.invariant.back next skips)

pub returns-then-count-room-clause-err : goal.returns-then-count-room-clause-err
returns-then-count-room-clause-err c = λ next skips.
    let some = some_octets c.in-Ok.label.octets.now (λ e. let bad = c.if-is_root.ensures.1 e in cc) in
    let long = c.len-count.ensures in
    omega (arith, (skips-behind _ _ (c.len-count.result + 1) (c.loop-label.invariant.back next skips) c.in-Ok.ensures.ok some (omega arith)).0)

pub returns-in-Err-BadType-clause-short : goal.returns-in-Err-BadType-clause-short
returns-in-Err-BadType-clause-short c =
    (λ is. cc, λ cut. absurd (cut-bad_type c.in-Err-BadType.ensures.err c.in-Err-BadType.field-0-is (c.loop-label.invariant.cut_back cut)))

pub returns-in-Err-ShortInput-clause-short : goal.returns-in-Err-ShortInput-clause-short
returns-in-Err-ShortInput-clause-short c =
    (λ is. c.loop-label.invariant.cut_on (cut-here c.in-Err-ShortInput.ensures.err c.in-Err-ShortInput.field-0-is), λ cut. refl)

pub returns-then-count-room-clause-short : goal.returns-then-count-room-clause-short
returns-then-count-room-clause-short c =
    let some = some_octets c.in-Ok.label.octets.now (λ e. let bad = c.if-is_root.ensures.1 e in cc) in
    let long = c.len-count.ensures in (
      λ is. cc,
      λ cut. absurd (omega (arith, (cut-behind _ _ (c.len-count.result + 1) (c.loop-label.invariant.cut_back cut) c.in-Ok.ensures.ok some (omega arith)).0)),
    )
