use Rattle.zone_canonical.proofs.Alike.{one_canonical}
use Rattle.zone_canonical.proofs.laws.canonical_octets_are_one.Goals as goal

pub returns : goal.returns
returns c = one_canonical
