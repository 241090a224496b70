use Rattle.std.proofs.Common.{◌∙◌, sym}
use Rattle.std.specs.Cmp.Lexicographic.{slice_cmp}
use Rattle.std.specs.Ordering.{nat_cmp}
use Rattle.dns_rdata_more.proofs.Composed.{canonical_forms}
use Rattle.dns_rdata_more.proofs.canonical_order.canonical_further_cmp.Goals as goal

pub returns : goal.returns
returns c =
    let one = canonical_forms c.args.rtype c.in-Some.forms.now c.args.octets.now c.in-Some.ensures.some in
    let two = canonical_forms c.args.rtype c.in-Some.forms.now c.args.others.now c.in-Some.ensures.some in
    c.fields_cmp.ensures ∙ sym (λ i. slice_cmp nat_cmp (one i) (two i))
