use Rattle.std.proofs.Common.{Some, subst}
use Rattle.dns_name.specs.ParsedName.{labels_of}
use Rattle.dns_header.specs.Record.{with_labels}
use Rattle.dns_sections.specs.Given.{GivesRecord, IsAny}
use Rattle.dns_sections.specs.Seen.{any_at, records_at}
use Rattle.dns_sections.proofs.Asked.{found-here, broken-here, ended-here}
use Rattle.dns_sections.proofs.record_iter.AnyRecordIterIterator.next.Goals as goal

pub returns-in-Some-Ok-clause-steps : goal.returns-in-Some-Ok-clause-steps
returns-in-Some-Ok-clause-steps g c =
    let gives = subst (λ r. GivesRecord (any_at c.args.self.now).cursor (Some r) (records_at c.next.new.self).cursor) c.in-Some-Ok.field-0-is
    c.in-Some-Ok.ensures.steps.1 in (
      c.next.ensures.steps.0,
      found-here IsAny g.Data.ParseAnyRecordData.reads_any (any_at c.args.self.now).cursor (records_at c.next.new.self).cursor
          (with_labels labels_of) c.in-Some-Ok.record c.into_any_record.result gives tt c.into_any_record.ensures.ok
          c.into_any_record.ensures.err,
    )

pub returns-in-Some-Err-clause-steps : goal.returns-in-Some-Err-clause-steps
returns-in-Some-Err-clause-steps g c =
    let gives = subst (λ r. GivesRecord (any_at c.args.self.now).cursor (Some r) (records_at c.next.new.self).cursor) c.in-Some-Err.field-0-is
    c.in-Some-Err.ensures.steps.1 in (
      c.next.ensures.steps.0,
      broken-here IsAny g.Data.ParseAnyRecordData.reads_any (any_at c.args.self.now).cursor
          (records_at c.next.new.self).cursor c.in-Some-Err.error gives,
    )

pub returns-in-None-clause-steps : goal.returns-in-None-clause-steps
returns-in-None-clause-steps g c = (
  c.next.ensures.steps.0,
  ended-here IsAny g.Data.ParseAnyRecordData.reads_any (any_at c.args.self.now).cursor
      (records_at c.next.new.self).cursor c.in-None.ensures.steps.1,
)
