use Rattle.std.proofs.Common.{rules}
use Rattle.dns_wire.proofs.Flat.{leads_here, leads-label, leads-root, leads-none}
use Rattle.dns_flat.proofs.NoNames.{labels_here, labels_behind, stops_at}
use Rattle.dns_flat.proofs.name.behind_root.Goals as goal

pub loop-label-init : goal.loop-label-init
loop-label-init c = record { leads = leads_here _; front = labels_here _ }

pub returns-then-is_root-clause-ok : goal.returns-then-is_root-clause-ok
returns-then-is_root-clause-ok c =
    leads-root _ _ _ _ c.loop-label.invariant.leads c.in-Ok.ensures.ok (search rules)

pub loop-label-preserved : goal.loop-label-preserved
loop-label-preserved c = record {
  leads = leads-label _ _ _ _ c.loop-label.invariant.leads c.in-Ok.ensures.ok (λ e. let bad = c.if-is_root.ensures.1 e in cc);
  front = labels_behind _ _ _ _ c.loop-label.invariant.front c.in-Ok.ensures.ok (λ e. let bad = c.if-is_root.ensures.1 e in cc);
}

pub returns-in-Err-Pointer-clause-err : goal.returns-in-Err-Pointer-clause-err
returns-in-Err-Pointer-clause-err c = leads-none _ _ _ c.loop-label.invariant.leads c.in-Err-Pointer.ensures.err

pub returns-in-Err-Pointer-clause-why : goal.returns-in-Err-Pointer-clause-why
returns-in-Err-Pointer-clause-why c =
    (_, stops_at _ _ _ _ c.loop-label.invariant.front c.in-Err-Pointer.ensures.err c.in-Err-Pointer.field-0-is)

pub returns-in-Err-BadType-clause-err : goal.returns-in-Err-BadType-clause-err
returns-in-Err-BadType-clause-err c = leads-none _ _ _ c.loop-label.invariant.leads c.in-Err-BadType.ensures.err

pub returns-in-Err-BadType-clause-why : goal.returns-in-Err-BadType-clause-why
returns-in-Err-BadType-clause-why c =
    stops_at _ _ _ _ c.loop-label.invariant.front c.in-Err-BadType.ensures.err c.in-Err-BadType.field-0-is

pub returns-in-Err-ShortInput-clause-err : goal.returns-in-Err-ShortInput-clause-err
returns-in-Err-ShortInput-clause-err c = leads-none _ _ _ c.loop-label.invariant.leads c.in-Err-ShortInput.ensures.err

pub returns-in-Err-ShortInput-clause-why : goal.returns-in-Err-ShortInput-clause-why
returns-in-Err-ShortInput-clause-why c =
    stops_at _ _ _ _ c.loop-label.invariant.front c.in-Err-ShortInput.ensures.err c.in-Err-ShortInput.field-0-is
