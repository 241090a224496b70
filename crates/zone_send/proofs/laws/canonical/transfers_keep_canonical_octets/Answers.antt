use Rattle.zone_send.proofs.CanonicalTransfers.{kept_canonical}
use Rattle.zone_send.proofs.laws.canonical.transfers_keep_canonical_octets.Goals as goal

pub returns : goal.returns
returns c = kept_canonical
