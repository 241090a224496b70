use Rattle.std.proofs.Common.{◌∙◌, sym}
use Rattle.dns_fields.specs.Alike.{rows_cmp}
use Rattle.dns_rdata_more.proofs.Rows.{compared_forms}
use Rattle.dns_rdata_more.proofs.folded_order.further_cmp.Goals as goal

pub returns : goal.returns
returns c =
    let one = compared_forms c.args.rtype c.in-Some.forms.now c.args.octets.now c.in-Some.ensures.some in
    let two = compared_forms c.args.rtype c.in-Some.forms.now c.args.others.now c.in-Some.ensures.some in
    c.fields_cmp.ensures ∙ sym (λ i. rows_cmp (one i) (two i))
