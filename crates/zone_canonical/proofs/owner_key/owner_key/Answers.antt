use Rattle.std.proofs.Common.{◌≡◌, true, false, refl, ap, ◌∙◌, arith}
use Rattle.std.specs.Ordering.{is_lt}
use Rattle.dns_wire.proofs.Wire.{length-wire_is}
use Rattle.dns_flat.proofs.PartForms.{stripped, strip_start, strip_within}
use Rattle.zone_canonical.proofs.OwnerKeys.{under, before, after}
use Rattle.zone_canonical.proofs.owner_key.owner_key.Goals as goal

pub overflow_sub-len : goal.overflow_sub-len
overflow_sub-len c =
    let strip = stripped c.args.owner.now c.args.apex.now (c.if-ends_with.ensures.0 refl) in
    omega (arith, strip_within strip, length-wire_is c.args.owner.now, length-wire_is c.args.apex.now)

pub slice-requires-clause-end : goal.slice-requires-clause-end
slice-requires-clause-end c =
    let strip = stripped c.args.owner.now c.args.apex.now (c.if-ends_with.ensures.0 refl) in
    strip_start _ strip (omega (arith, strip_within strip, length-wire_is c.args.owner.now, length-wire_is c.args.apex.now))

pub returns-then-ends_with : goal.returns-then-ends_with
returns-then-ends_with c =
    let strip = stripped c.args.owner.now c.args.apex.now (c.if-ends_with.ensures.0 refl) in
    c.key_under.ensures
    ∙ under c.args.owner.now c.args.apex.now c.slice.result _ strip
    (omega (arith, strip_within strip, length-wire_is c.args.owner.now, length-wire_is c.args.apex.now)) c.slice.ensures

pub returns-then-is_lt : goal.returns-then-is_lt
returns-then-is_lt c = before c.args.owner.now c.args.apex.now (c.if-is_lt.ensures ∙ ap is_lt c.name_cmp.ensures)

pub returns-else-is_lt : goal.returns-else-is_lt
returns-else-is_lt c =
    after c.args.owner.now c.args.apex.now (c.if-is_lt.ensures ∙ ap is_lt c.name_cmp.ensures) (λ ends. let e : false ≡ true = c.if-ends_with.ensures.1 ends in cc)
