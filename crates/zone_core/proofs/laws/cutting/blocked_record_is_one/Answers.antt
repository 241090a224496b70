use Rattle.zone_core.proofs.Cuttings.{blocked_is_one}
use Rattle.zone_core.proofs.laws.cutting.blocked_record_is_one.Goals as goal

pub returns : goal.returns
returns c = blocked_is_one
