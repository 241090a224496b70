use Rattle.zone_canonical.proofs.ChangeLaws.{one_change_list}
use Rattle.zone_canonical.proofs.laws.changes_are_one.Goals as goal

pub returns : goal.returns
returns c = one_change_list
