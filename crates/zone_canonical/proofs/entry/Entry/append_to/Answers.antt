use Rattle.std.proofs.Common.{subst}
use Rattle.zone_records.specs.MessageRecord.{IsRecord}
use Rattle.zone_records.specs.Record.{Record}
use Rattle.zone_canonical.proofs.RecordForms.{formed_lawful}
use Rattle.zone_canonical.proofs.entry.Entry.append_to.Goals as goal

pub returns-clause-known : goal.returns-clause-known
returns-clause-known c =
    subst (λ (form : Record). IsRecord form) c.stored.ensures.form (formed_lawful c.stored.result c.stored.ensures.has)
