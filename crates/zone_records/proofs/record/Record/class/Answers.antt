use Rattle.std.proofs.Common.{◌∙◌, ap}
use Rattle.zone_records.specs.Record.{Record}
use Rattle.zone_records.proofs.StoredRecords.{class_at}
use Rattle.zone_records.proofs.record.Record.class.Goals as goal

pub returns : goal.returns
returns c = c.from_int.ensures ∙ c.number_at.ensures ∙ class_at _ _ c.self.invariant ∙ ap (λ (r : Record). r.class) c.self.view_is
