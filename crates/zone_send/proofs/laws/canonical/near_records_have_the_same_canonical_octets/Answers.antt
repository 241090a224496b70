use Rattle.zone_send.proofs.CanonicalTransfers.{near_canonical}
use Rattle.zone_send.proofs.laws.canonical.near_records_have_the_same_canonical_octets.Goals as goal

pub returns : goal.returns
returns c = near_canonical
