use Rattle.dns_name.proofs.Growth.{GrowsTo-trans}
use Rattle.dns_header.proofs.Composing.{grows-all}
use Rattle.dns_header.proofs.compose.canonical.append_canonical_parts.Goals as goal

pub returns-clause-grows : goal.returns-clause-grows
returns-clause-grows g c =
    GrowsTo-trans c.append_canonical_head.ensures.grows
    (grows-all c.compose_canonical_len_rdata.result _ _ _ _ _ c.compose_canonical_len_rdata.ensures.ok c.compose_canonical_len_rdata.ensures.err
    c.compose_canonical_len_rdata.ensures.known)

pub returns-clause-stays : goal.returns-clause-stays
returns-clause-stays g c =
    g.met.Target.OctetsBuilder.stays_on _ _ _ c.append_canonical_head.ensures.stays c.compose_canonical_len_rdata.ensures.stays
