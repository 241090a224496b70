use Rattle.dns_name.proofs.Growth.{GrowsTo-trans}
use Rattle.dns_header.proofs.compose.canonical.append_canonical_head.Goals as goal

pub returns-clause-grows : goal.returns-clause-grows
returns-clause-grows g c = GrowsTo-trans c.compose_canonical.ensures.grows c.append_slice.ensures.grows
