use Rattle.std.proofs.Common.{◌≡◌, ◌+◌, [], arith, refl}
use Rattle.dns_wire.proofs.Flat.{some_octets}
use Rattle.dns_wire.proofs.Heads.{to_pointer, bad_type-spells_none, short-spells_none}
use Rattle.dns_wire.proofs.Readable.{label-labels, label-read, root-labels, none_from_merely, read-within}
use Rattle.dns_name.proofs.Written.{written-label, written-behind, written-root, pointer-written}
use Rattle.dns_name.proofs.parsed.parts.has_pointer.Goals as goal

pub label_at-requires : goal.label_at-requires
label_at-requires c = let within = read-within _ _ c.loop-label.invariant.read in omega arith

pub returns-then-is_root-clause-out : goal.returns-then-is_root-clause-out
returns-then-is_root-clause-out c = λ _.
    let none : c.in-Ok.label.octets.now ≡ [] = c.if-is_root.ensures.0 refl in
    c.loop-label.invariant.on
    (written-root _ _ _ _ c.in-Ok.ensures.ok none (root-labels _ _ _ _ c.loop-label.invariant.read c.in-Ok.ensures.ok none))

pub loop-label-preserved : goal.loop-label-preserved
loop-label-preserved c =
    let some = some_octets c.in-Ok.label.octets.now (λ e. let bad = c.if-is_root.ensures.1 e in cc) in
    let long = c.len.ensures in
    let next = c.loop-label.place + (c.len.result + 1) in
    let labels = label-labels _ _ _ _ next c.loop-label.invariant.read c.in-Ok.ensures.ok some (omega arith) in
    record {
      read = label-read _ _ _ _ next c.loop-label.invariant.read c.in-Ok.ensures.ok some (omega arith);
      on = λ written. c.loop-label.invariant.on (written-label _ _ _ _ next c.in-Ok.ensures.ok (omega arith) labels written);
      back = λ written. written-behind _ _ _ _ next c.in-Ok.ensures.ok (omega arith) labels (c.loop-label.invariant.back written);
    }

pub returns-in-Err-Pointer-clause-compressed : goal.returns-in-Err-Pointer-clause-compressed
returns-in-Err-Pointer-clause-compressed c = λ _ written.
    pointer-written _ _ _ c.loop-label.invariant.read (to_pointer _ c.in-Err-Pointer.ensures.err c.in-Err-Pointer.field-0-is)
    (c.loop-label.invariant.back written)

pub unreachable-requires : goal.unreachable-requires
unreachable-requires c =
    none_from_merely c.loop-label.invariant.read
    (λ read. bad_type-spells_none c.in-Err-BadType.ensures.err c.in-Err-BadType.field-0-is read.reads.spelled)

pub unreachable-requires-in-Err-ShortInput : goal.unreachable-requires-in-Err-ShortInput
unreachable-requires-in-Err-ShortInput c =
    none_from_merely c.loop-label.invariant.read
    (λ read. short-spells_none c.in-Err-ShortInput.ensures.err c.in-Err-ShortInput.field-0-is read.reads.spelled)
