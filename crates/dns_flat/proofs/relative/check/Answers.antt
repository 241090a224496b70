use Rattle.std.proofs.Common.{◌≡◌, length, rules, arith, ℕ, refl, ap}
use borrow.Author.Tests.{tests}
use Rattle.dns_wire.proofs.Flat.{leads_here}
use Rattle.dns_flat.proofs.NoNames.{labels_here, labels_behind, stops_at, stops_within, root_behind}
use Rattle.dns_flat.proofs.RelativeForms.{leads_on, leads_end, leads_root, leads_none}
use Rattle.dns_wire.proofs.Wire.{length-wire_is}
use Rattle.dns_flat.proofs.relative.check.Goals as goal

pub loop-rest-init : goal.loop-rest-init
loop-rest-init c = record { leads = leads_here _; front = labels_here _ }

pub returns-then-octets-gt254-clause-err : goal.returns-then-octets-gt254-clause-err
returns-then-octets-gt254-clause-err c = λ name is_name is.
    omega (arith, ap (length {A = ℕ}) is, length-wire_is name, is_name.short)

pub returns-then-is_root-clause-err : goal.returns-then-is_root-clause-err
returns-then-is_root-clause-err c =
    leads_root _ _ _ _ c.loop-rest.invariant.leads c.in-Ok.ensures.ok (c.if-is_root.ensures.0 refl)

pub loop-rest-preserved : goal.loop-rest-preserved
loop-rest-preserved c = record {
  leads = leads_on _ _ _ _ c.loop-rest.invariant.leads c.in-Ok.ensures.ok (λ none. let bad = c.if-is_root.ensures.1 none in cc);
  front = labels_behind _ _ _ _ c.loop-rest.invariant.front c.in-Ok.ensures.ok (λ none. let bad = c.if-is_root.ensures.1 none in cc);
}

pub returns-in-Err-Pointer-clause-err : goal.returns-in-Err-Pointer-clause-err
returns-in-Err-Pointer-clause-err c =
    let some : length c.loop-rest.rest.now ≡ 0 → ⊥ = λ none. search (rules, tests) in
    leads_none _ _ _ c.loop-rest.invariant.leads c.in-Err-Pointer.ensures.err some

pub returns-in-Err-BadType-clause-err : goal.returns-in-Err-BadType-clause-err
returns-in-Err-BadType-clause-err c =
    let some : length c.loop-rest.rest.now ≡ 0 → ⊥ = λ none. search (rules, tests) in
    leads_none _ _ _ c.loop-rest.invariant.leads c.in-Err-BadType.ensures.err some

pub returns-in-Err-ShortInput-clause-err : goal.returns-in-Err-ShortInput-clause-err
returns-in-Err-ShortInput-clause-err c =
    let some : length c.loop-rest.rest.now ≡ 0 → ⊥ = λ none. search (rules, tests) in
    leads_none _ _ _ c.loop-rest.invariant.leads c.in-Err-ShortInput.ensures.err some

pub returns-clause-ok : goal.returns-clause-ok
returns-clause-ok c =
    let none : length c.loop-rest.rest.now ≡ 0 = search (rules, tests) in
    leads_end _ _ c.loop-rest.invariant.leads none (omega arith)

pub returns-then-is_root-clause-why : goal.returns-then-is_root-clause-why
returns-then-is_root-clause-why c =
    (_, root_behind _ _ _ _ c.loop-rest.invariant.front c.in-Ok.ensures.ok (c.if-is_root.ensures.0 refl))

pub returns-in-Err-Pointer-clause-why : goal.returns-in-Err-Pointer-clause-why
returns-in-Err-Pointer-clause-why c =
    (_, stops_at _ _ _ _ c.loop-rest.invariant.front c.in-Err-Pointer.ensures.err c.in-Err-Pointer.field-0-is)

pub returns-in-Err-BadType-clause-why : goal.returns-in-Err-BadType-clause-why
returns-in-Err-BadType-clause-why c =
    stops_at _ _ _ _ c.loop-rest.invariant.front c.in-Err-BadType.ensures.err c.in-Err-BadType.field-0-is

pub returns-in-Err-ShortInput-clause-why : goal.returns-in-Err-ShortInput-clause-why
returns-in-Err-ShortInput-clause-why c =
    let some : length c.loop-rest.rest.now ≡ 0 → ⊥ = λ none. search (rules, tests) in
    stops_within _ _ _ _ c.loop-rest.invariant.front c.in-Err-ShortInput.ensures.err c.in-Err-ShortInput.field-0-is some
