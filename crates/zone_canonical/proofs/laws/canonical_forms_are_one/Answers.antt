use Rattle.zone_canonical.proofs.ChangeLaws.{one_list}
use Rattle.zone_canonical.proofs.laws.canonical_forms_are_one.Goals as goal

pub returns : goal.returns
returns c = one_list
