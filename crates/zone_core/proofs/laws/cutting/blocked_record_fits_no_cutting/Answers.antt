use Rattle.zone_core.proofs.Cuttings.{blocked_fits_no_cutting}
use Rattle.zone_core.proofs.laws.cutting.blocked_record_fits_no_cutting.Goals as goal

pub returns : goal.returns
returns c = blocked_fits_no_cutting
