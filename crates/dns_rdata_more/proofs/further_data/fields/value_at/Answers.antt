use Rattle.std.proofs.Common.{◌≡◌, subst}
use Rattle.std.specs.Prelude.{Some, slice_get}
use Rattle.dns_fields_more.specs.Values.{field_of}
use Rattle.dns_fields_more.specs.declared.form.Form.{Form}
use Rattle.dns_rdata_more.specs.FurtherData.{HasField}
use Rattle.dns_rdata_more.proofs.Whole.{at_start}
use Rattle.dns_rdata_more.proofs.Places.{field_whole}
use Rattle.dns_rdata_more.proofs.further_data.fields.value_at.Goals as goal

pub returns-clause-at : goal.returns-clause-at
returns-clause-at c =
    field_whole c.args.rtype c.args.octets.now c.in-Some.forms.now c.args.place (λ form. field_of form c.value_in.result) c.in-Some.ensures.some c.requires.are
    (subst (λ l. (its : Form) → slice_get c.in-Some.forms.now c.args.place ≡ Some its → HasField c.in-Some.forms.now l c.args.place (field_of its c.value_in.result)) (at_start c.from_ref.result c.from_ref.ensures.place c.from_ref.ensures.octets) c.value_in.ensures.at)
