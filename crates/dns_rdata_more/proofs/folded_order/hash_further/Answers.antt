use Rattle.std.proofs.Common.{◌≡◌, ◌∙◌, ap, sym}
use Rattle.std.specs.Prelude.{fold}
use Rattle.dns_octets.specs.Parser.{rest_of}
use Rattle.dns_fields.specs.Alike.{keys}
use Rattle.dns_rdata_more.specs.FurtherData.{compared_read}
use Rattle.dns_rdata_more.proofs.Rows.{compared_forms}
use Rattle.dns_rdata_more.proofs.Whole.{at_start}
use Rattle.dns_rdata_more.proofs.folded_order.hash_further.Goals as goal

pub returns : goal.returns
returns g c =
    let whole : rest_of c.from_ref.result ≡ c.args.octets.now = at_start c.from_ref.result c.from_ref.ensures.place c.from_ref.ensures.octets in
    c.hash_fields.ensures
    ∙ ap (λ r. fold g.H.Hasher.write c.args.state.now (keys r))
    (ap (compared_read c.in-Some.forms.now) whole ∙ sym (compared_forms c.args.rtype c.in-Some.forms.now c.args.octets.now c.in-Some.ensures.some))
