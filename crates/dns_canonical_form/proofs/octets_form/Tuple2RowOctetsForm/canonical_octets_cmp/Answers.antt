use Rattle.dns_canonical_form.proofs.OctetsForms.{cut, then_first, then_rest}
use Rattle.dns_canonical_form.proofs.octets_form.Tuple2RowOctetsForm.canonical_octets_cmp.Goals as goal

pub returns-in-Equal : goal.returns-in-Equal
returns-in-Equal g c row other are others =
    let ends = g.met.A.FieldOctetsForm.ends in
    let one = cut row are ends c.len_in.ensures c.min.ensures c.split_at.ensures.front c.split_at.ensures.back in
    let two = cut other others ends c.len_in-2.ensures c.min-2.ensures c.split_at-2.ensures.front c.split_at-2.ensures.back in
    then_rest one two c.canonical_field_cmp.result ends c.canonical_field_cmp.ensures c.canonical_octets_cmp.result c.in-Equal.is
    (c.canonical_octets_cmp.ensures one.others two.others one.left two.left)

pub returns-in_default : goal.returns-in_default
returns-in_default g c row other are others =
    let ends = g.met.A.FieldOctetsForm.ends in
    let one = cut row are ends c.len_in.ensures c.min.ensures c.split_at.ensures.front c.split_at.ensures.back in
    let two = cut other others ends c.len_in-2.ensures c.min-2.ensures c.split_at-2.ensures.front c.split_at-2.ensures.back in
    then_first one two c.canonical_field_cmp.result ends c.canonical_field_cmp.ensures c.in_default.not-Equal
