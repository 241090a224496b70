use Rattle.std.proofs.Common.{Some, Err, subst, of_calls}
use Rattle.dns_sections.specs.Copied.{CopiesOne, StopsAt}
use Rattle.dns_sections.specs.Given.{GivesRecord}
use Rattle.dns_sections.specs.Seen.{records_at}
use Rattle.dns_sections.specs.declared.error.CopyRecordsError.TheVariants.{Parse, Push}
use Rattle.dns_sections.proofs.Copies.{handed-on, none-copied, one-copied}
use Rattle.dns_sections.proofs.message.copied.copy_section.Goals as goal

pub loop-record-init : goal.loop-record-init
loop-record-init g c = record {
  callable = c.requires;
  copied = none-copied (records_at c.args.section).cursor (c.args.op.now, c.args.target.now);
}

pub loop-record-preserved-in-Some-call_mut : goal.loop-record-preserved-in-Some-call_mut
loop-record-preserved-in-Some-call_mut g c =
    let gives = subst (λ r. GivesRecord (records_at c.loop-record.section).cursor (Some r) (records_at c.next.new.self).cursor) c.in_ok-record.was
    c.in-Some.ensures.steps.1 in record {
      callable = search of_calls;
      copied = one-copied c.loop-record.invariant.copied gives (CopiesOne.kept c.in-Some-call_mut.ensures c.in_ok-push_record.ensures);
    }

pub loop-record-preserved : goal.loop-record-preserved
loop-record-preserved g c =
    let gives = subst (λ r. GivesRecord (records_at c.loop-record.section).cursor (Some r) (records_at c.next.new.self).cursor) c.in_ok-record.was
    c.in-Some.ensures.steps.1 in record {
      callable = search of_calls;
      copied = one-copied c.loop-record.invariant.copied gives (CopiesOne.left c.in_default-call_mut.ensures);
    }

pub returns-in_err-record-clause-err : goal.returns-in_err-record-clause-err
returns-in_err-record-clause-err g c =
    let gives = subst (λ r. GivesRecord (records_at c.loop-record.section).cursor (Some r) (records_at c.next.new.self).cursor) c.in_err-record.was
    c.in-Some.ensures.steps.1 in
    handed-on c.from_residual.result (Parse c.in_err-record.field-0.0) _ c.from_residual.ensures.1
    (StopsAt.unread c.loop-record.invariant.copied gives)

pub returns-in_err-push_record-clause-err : goal.returns-in_err-push_record-clause-err
returns-in_err-push_record-clause-err g c =
    let gives = subst (λ r. GivesRecord (records_at c.loop-record.section).cursor (Some r) (records_at c.next.new.self).cursor) c.in_ok-record.was
    c.in-Some.ensures.steps.1 in
    handed-on c.from_residual-in_err-push_record.result (Push c.in_err-push_record.field-0.0) _
    c.from_residual-in_err-push_record.ensures.1
    (StopsAt.refused c.loop-record.invariant.copied gives c.in-Some-call_mut.ensures c.in_err-push_record.ensures)
