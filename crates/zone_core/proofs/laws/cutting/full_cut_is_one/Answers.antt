use Rattle.zone_core.proofs.Cuttings.{full_cut_is_one}
use Rattle.zone_core.proofs.laws.cutting.full_cut_is_one.Goals as goal

pub returns : goal.returns
returns c = full_cut_is_one
