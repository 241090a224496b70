use Rattle.std.proofs.Common.{ap, length, ◌∙◌, subst, true, false}
use Rattle.zone_records.specs.Record.{Record}
use Rattle.zone.specs.View.{apex_of}
use Rattle.zone_tool.specs.Statistics.{AreTypeCounts}
use Rattle.zone_tool.proofs.CountedOwners.{owner_count}
use Rattle.zone_tool.proofs.statistics.statistics_of.Goals as goal

pub returns : goal.returns
returns c =
    let zone = c.args.zone.now in
    let same = c.records_of-records.ensures.records in
    let forms = c.in_ok-forms.forms in
    record {
      whole = c.len.ensures.count ∙ ap (length {A = Record}) same;
      types = subst (λ l. AreTypeCounts l c.in_ok-type_counts.field-0.items) same c.in_ok-type_counts.ensures;
      names = owner_count false c.apex-apex.result (apex_of zone.records) c.records_of-records.result.now zone.records forms c.count_owners.result
          c.apex-apex.ensures same c.in_ok-forms.ensures.forms c.count_owners.ensures;
      delegations = owner_count true c.apex-apex.result (apex_of zone.records) c.records_of-records.result.now zone.records forms
          c.count_owners-2.result c.apex-apex.ensures same c.in_ok-forms.ensures.forms c.count_owners-2.ensures;
    }
