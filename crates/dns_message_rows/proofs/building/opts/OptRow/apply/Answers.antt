use Rattle.dns_builder.proofs.OptLeaves.{leaves-on}
use Rattle.dns_message_rows.proofs.building.opts.OptRow.apply.Goals as goal

pub returns-in-Told : goal.returns-in-Told
returns-in-Told g c =
    leaves-on g.met.Target.OctetsBuilder.stays_on _ _ _
    (leaves-on g.met.Target.OctetsBuilder.stays_on _ _ _
    (leaves-on g.met.Target.OctetsBuilder.stays_on _ _ _
    (leaves-on g.met.Target.OctetsBuilder.stays_on _ _ _ c.set_udp_payload_size.ensures.leaves c.set_rcode.ensures.leaves)
    c.set_version.ensures.leaves) c.set_dnssec_ok.ensures.leaves) c.push_raw_option-pushed.ensures.leaves

pub returns-in-Dropped : goal.returns-in-Dropped
returns-in-Dropped g c =
    leaves-on g.met.Target.OctetsBuilder.stays_on _ _ _
    (leaves-on g.met.Target.OctetsBuilder.stays_on _ _ _
    (leaves-on g.met.Target.OctetsBuilder.stays_on _ _ _
    (leaves-on g.met.Target.OctetsBuilder.stays_on _ _ _ c.set_udp_payload_size.ensures.leaves c.set_rcode.ensures.leaves)
    c.set_version.ensures.leaves) c.set_dnssec_ok.ensures.leaves) c.push_raw_option-pushed.ensures.leaves

pub returns-in-Replaced : goal.returns-in-Replaced
returns-in-Replaced g c =
    leaves-on g.met.Target.OctetsBuilder.stays_on _ _ _
    (leaves-on g.met.Target.OctetsBuilder.stays_on _ _ _
    (leaves-on g.met.Target.OctetsBuilder.stays_on _ _ _
    (leaves-on g.met.Target.OctetsBuilder.stays_on _ _ _
    (leaves-on g.met.Target.OctetsBuilder.stays_on _ _ _ c.set_udp_payload_size.ensures.leaves c.set_rcode.ensures.leaves)
    c.set_version.ensures.leaves) c.set_dnssec_ok.ensures.leaves) c.push_raw_option-pushed.ensures.leaves) c.clone_from.ensures.leaves
