use Rattle.dns_name.proofs.Growth.{GrowsTo-trans}
use Rattle.dns_name.proofs.composer.in_full.append_label.Goals as goal

pub returns-clause-grows : goal.returns-clause-grows
returns-clause-grows g c = GrowsTo-trans (c.in_ok-append_slice.ensures.grows) c.append_slice-2.ensures.grows
