use Rattle.std.proofs.Common.{◌≡◌, ◌+◌, [], ◌∙◌, refl, arith}
use Rattle.dns_wire.proofs.Flat.{some_octets}
use Rattle.dns_wire.proofs.Heads.{to_pointer, bad_type-spells_none, short-spells_none}
use Rattle.dns_wire.proofs.Readable.{label-labels, label-read, root-labels, pointer-labels, pointer-read, pointer-back, none_from_merely, read-within}
use Rattle.dns_wire.proofs.walk.split_label.Goals as goal
use Rattle.dns_wire.proofs.walk.split_label.Goals.{then-is_root, else-is_root}

pub returns-in-Ok-clause-left : goal.returns-in-Ok-clause-left
returns-in-Ok-clause-left c =
    elim c.if-is_root.branch [
      | then-is_root w ↦ rw w.result-is tt
      | else-is_root w ↦
          rw w.result-is
          (label-read _ _ _ _ _ c.loop-label.invariant.read c.in-Ok.ensures.ok
          (some_octets c.in-Ok.label.octets.now (λ e. let bad = w.if-is_root.ensures.1 e in cc)) (omega (arith, c.len.ensures)))
    ]

pub returns-in-Ok-clause-labels : goal.returns-in-Ok-clause-labels
returns-in-Ok-clause-labels c =
    let there = c.loop-label.invariant.read in
    let at = c.in-Ok.ensures.ok in
    let same = c.loop-label.invariant.labels in
    elim c.if-is_root.branch [
      | then-is_root w ↦
          let none : c.in-Ok.label.octets.now ≡ [] = w.if-is_root.ensures.0 refl in
          rw (w.result-is, same ∙ root-labels _ _ _ _ there at none, none) refl
      | else-is_root w ↦
          let some = some_octets c.in-Ok.label.octets.now (λ e. let bad = w.if-is_root.ensures.1 e in cc) in
          let next = c.loop-label.place + 1 + c.len.result in
          rw (w.result-is, same ∙ label-labels _ _ _ _ next there at some (omega (arith, c.len.ensures))) refl
    ]

pub loop-label-smaller : goal.loop-label-smaller
loop-label-smaller c =
    let is = c.from-place.ensures in
    let back = pointer-back _ _ _ c.loop-label.invariant.read (to_pointer _ c.in-Err-Pointer.ensures.err c.in-Err-Pointer.field-0-is) in omega arith

pub loop-label-preserved : goal.loop-label-preserved
loop-label-preserved c =
    let is = c.from-place.ensures in
    let told = c.in-Err-Pointer.target-is in
    let e : c.from-place.result ≡ c.in-Err-Pointer.target = cc in
    rw e (record {
      read = pointer-read _ _ _ c.loop-label.invariant.read (to_pointer _ c.in-Err-Pointer.ensures.err c.in-Err-Pointer.field-0-is);
      labels = c.loop-label.invariant.labels ∙ pointer-labels _ _ _ c.loop-label.invariant.read (to_pointer _ c.in-Err-Pointer.ensures.err c.in-Err-Pointer.field-0-is);
    })

pub label_at-requires : goal.label_at-requires
label_at-requires c = let within = read-within _ _ c.loop-label.invariant.read in omega arith

pub unreachable-requires : goal.unreachable-requires
unreachable-requires c =
    none_from_merely c.loop-label.invariant.read
    (λ read. bad_type-spells_none c.in-Err-BadType.ensures.err c.in-Err-BadType.field-0-is read.reads.spelled)

pub unreachable-requires-in-Err-ShortInput : goal.unreachable-requires-in-Err-ShortInput
unreachable-requires-in-Err-ShortInput c =
    none_from_merely c.loop-label.invariant.read
    (λ read. short-spells_none c.in-Err-ShortInput.ensures.err c.in-Err-ShortInput.field-0-is read.reads.spelled)
