use Rattle.std.proofs.Common.{◌≡◌, ◌∙◌, true, false, Some, Ok, Err, ap, subst, sym, arith}
use Rattle.std.specs.Prelude.{is_some, IfSome}
use Rattle.std.proofs.lemmas.Bool.{false≢true}
use Rattle.dns_name.specs.ParsedName.{labels_of}
use Rattle.dns_header.specs.Head.{NoWhole, WholeIsCut}
use Rattle.dns_header.specs.ParsedRecord.{HoldsRecord, IsRecordOf}
use Rattle.dns_header.specs.Record.{with_labels}
use Rattle.dns_sections.specs.Given.{GivesRecord}
use Rattle.dns_sections.specs.Seen.{asked_at, only_in, records_at}
use Rattle.dns_sections.proofs.Asked.{passed-on, given-here, broken-here, ended-here, class-one, not-one}
use Rattle.dns_sections.proofs.Steps.{falls}
use Rattle.dns_sections.proofs.record_iter.RecordIterIterator.next.Goals as goal
use Rattle.dns_sections.proofs.record_iter.RecordIterIterator.next.Goals.{else-self-via-then-self+else-ne, else-self-via-else-self}

pub returns-in-Err-clause-steps : goal.returns-in-Err-clause-steps
returns-in-Err-clause-steps g c =
    let inv = c.loop-item.invariant in
    let at = (asked_at c.loop-item.self).cursor in
    let behind = (records_at c.next.new.self).cursor in
    let gives = subst (λ r. GivesRecord at r behind) (c.in-Some.is ∙ ap Some c.in-Err.is)
    c.next.ensures.steps.1 in
    (c.next.ensures.steps.0 ∙ inv.section, inv.only, inv.gives _ _ (broken-here _ _ at behind c.in-Err.error gives))

pub loop-item-preserved-then-ne : goal.loop-item-preserved-then-ne
loop-item-preserved-then-ne g c =
    let inv = c.loop-item.invariant in
    let at = (asked_at c.loop-item.self).cursor in
    let behind = (records_at c.next.new.self).cursor in
    let gives = subst (λ r. GivesRecord at r behind) (c.in-Some.is ∙ ap Some c.in-Ok.is)
    c.next.ensures.steps.1 in
    let less = falls HoldsRecord NoWhole WholeIsCut at behind (Some (Ok c.in-Ok.record)) gives in record {
      section = c.next.ensures.steps.0 ∙ inv.section;
      only = inv.only;
      gives = λ result new rest. inv.gives result new (passed-on _ _ at behind new c.in-Ok.record result gives (λ taken. not-one c.class.result c.if-ne.ensures (c.class.ensures ∙ taken.1 (sym inv.only ∙ c.if-self.true))) rest);
      less = omega (arith, less, inv.less);
    }

pub returns-in-Ok-Some-clause-steps : goal.returns-in-Ok-Some-clause-steps
returns-in-Ok-Some-clause-steps g c =
    let inv = c.loop-item.invariant in
    let at = (asked_at c.loop-item.self).cursor in
    let behind = (records_at c.next.new.self).cursor in
    let gives = subst (λ r. GivesRecord at r behind) (c.in-Some.is ∙ ap Some c.in-Ok.is)
    c.next.ensures.steps.1 in
    let class : only_in c.args.self.now ≡ true → c.in-Ok.record.head.class ≡ 1 = elim c.else-self.branch [
      | else-self-via-then-self+else-ne w ↦ λ only. sym w.class.ensures ∙ class-one w.class.result w.if-ne.ensures
      | else-self-via-else-self w ↦ λ only. absurd (false≢true (sym w.if-self.false ∙ inv.only ∙ only))
    ] in
    let taken : g.Data.ParseRecordData.takes c.in-Ok.record.head.rtype ≡ true =
    sym c.in-Ok-Some.ensures.taken ∙ ap (λ f. is_some f) c.in-Ok-Some.field-0-is in
    let is = subst (λ f. IfSome f (λ rr. IsRecordOf g.Data.ParseRecordData.reads c.in-Ok.record (with_labels labels_of rr))) c.in-Ok-Some.field-0-is
    c.in-Ok-Some.ensures.ok in
    (c.next.ensures.steps.0 ∙ inv.section, inv.only, inv.gives _ _ (given-here _ _ at behind c.in-Ok.record (Ok (with_labels labels_of c.in-Ok-Some.record)) gives (taken, class) is))

pub loop-item-preserved : goal.loop-item-preserved
loop-item-preserved g c =
    let inv = c.loop-item.invariant in
    let at = (asked_at c.loop-item.self).cursor in
    let behind = (records_at c.next.new.self).cursor in
    let gives = subst (λ r. GivesRecord at r behind) (c.in-Some.is ∙ ap Some c.in-Ok.is)
    c.next.ensures.steps.1 in
    let none : g.Data.ParseRecordData.takes c.in-Ok.record.head.rtype ≡ false =
    sym c.in-Ok-None.ensures.taken ∙ ap (λ f. is_some f) c.in-Ok-None.field-0-is in
    let less = falls HoldsRecord NoWhole WholeIsCut at behind (Some (Ok c.in-Ok.record)) gives in record {
      section = c.next.ensures.steps.0 ∙ inv.section;
      only = inv.only;
      gives = λ result new rest. inv.gives result new (passed-on _ _ at behind new c.in-Ok.record result gives (λ taken. false≢true (sym none ∙ taken.0)) rest);
      less = omega (arith, less, inv.less);
    }

pub returns-in-Err-into_record-clause-steps : goal.returns-in-Err-into_record-clause-steps
returns-in-Err-into_record-clause-steps g c =
    let inv = c.loop-item.invariant in
    let at = (asked_at c.loop-item.self).cursor in
    let behind = (records_at c.next.new.self).cursor in
    let gives = subst (λ r. GivesRecord at r behind) (c.in-Some.is ∙ ap Some c.in-Ok.is)
    c.next.ensures.steps.1 in
    let class : only_in c.args.self.now ≡ true → c.in-Ok.record.head.class ≡ 1 = elim c.else-self.branch [
      | else-self-via-then-self+else-ne w ↦ λ only. sym w.class.ensures ∙ class-one w.class.result w.if-ne.ensures
      | else-self-via-else-self w ↦ λ only. absurd (false≢true (sym w.if-self.false ∙ inv.only ∙ only))
    ] in
    let err = c.in-Err-into_record.ensures.err in
    (c.next.ensures.steps.0 ∙ inv.section, inv.only, inv.gives _ _ (given-here _ _ at behind c.in-Ok.record (Err c.in-Err-into_record.error) gives (err.0, class) err.1))

pub returns-clause-steps : goal.returns-clause-steps
returns-clause-steps g c =
    let inv = c.loop-item.invariant in
    let at = (asked_at c.loop-item.self).cursor in
    let behind = (records_at c.next.new.self).cursor in
    (c.next.ensures.steps.0 ∙ inv.section, inv.only, inv.gives _ _ (ended-here _ _ at behind c.in_default.ensures.steps.1))
