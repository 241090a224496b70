use Rattle.dns_canonical_form.proofs.OctetsForms.{cut, made}
use Rattle.dns_canonical_form.proofs.octets_form.Tuple2RowOctetsForm.make_octets_canonical.Goals as goal

pub returns : goal.returns
returns g c row are =
    let its = cut row are g.met.A.FieldOctetsForm.ends c.len_in.ensures c.min.ensures c.split_at_mut-first.ensures.front c.split_at_mut-first.ensures.back in
    made its c.make_field_canonical.ensures (c.make_octets_canonical.ensures its.others its.left)
