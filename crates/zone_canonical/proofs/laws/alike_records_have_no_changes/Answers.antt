use Rattle.zone_canonical.proofs.ChangeLaws.{alike_unchanged}
use Rattle.zone_canonical.proofs.laws.alike_records_have_no_changes.Goals as goal

pub returns : goal.returns
returns c = alike_unchanged
