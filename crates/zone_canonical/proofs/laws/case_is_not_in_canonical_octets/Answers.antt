use Rattle.zone_canonical.proofs.Alike.{alike_same}
use Rattle.zone_canonical.proofs.laws.case_is_not_in_canonical_octets.Goals as goal

pub returns : goal.returns
returns c = alike_same
