use Rattle.std.proofs.Common.{◌-◌, arith, rules}
use Rattle.dns_fields_more.specs.Values.{field_of}
use Rattle.dns_rdata_more.proofs.Places.{field_first, field_later, kind_later, left_stand, left_well, place_left}
use Rattle.dns_rdata_more.proofs.further_data.fields.+value_in.Goals as goal

pub value_in-requires : goal.value_in-requires
value_in-requires t c = (
  search rules,
  (
    left_well {forms = c.args.forms.now} {form = c.in-Some.form.now} (let cases = c.in-Some.ensures.cases in cc) c.requires.well,
    (left_stand {forms = c.args.forms.now} {form = c.in-Some.form.now} (let cases = c.in-Some.ensures.cases in cc) c.requires.well c.in-Ok-2.ensures.ok c.requires.row, place_left {form = c.in-Some.form.now} (let cases = c.in-Some.ensures.cases in cc) c.requires.there c.if-place-eq0.false),
  ),
)

pub returns-in-Ok-clause-at : goal.returns-in-Ok-clause-at
returns-in-Ok-clause-at t c =
    field_first {others = c.in-Some.others.now} {form = c.in-Some.form.now} (λ form. field_of form c.in-Ok.value) c.if-place-eq0.true (let cases = c.in-Some.ensures.cases in cc) c.requires.well c.in-Ok.ensures.ok c.requires.row

pub returns-in-Ok-2-clause-at : goal.returns-in-Ok-2-clause-at
returns-in-Ok-2-clause-at t c =
    field_later {others = c.in-Some.others.now} {form = c.in-Some.form.now} (c.args.place - 1) (λ form. field_of form c.value_in.result) (omega arith) (let cases = c.in-Some.ensures.cases in cc) c.in-Ok-2.ensures.ok c.value_in.ensures.at

pub returns-in-Ok-2-clause-kind : goal.returns-in-Ok-2-clause-kind
returns-in-Ok-2-clause-kind t c =
    kind_later {others = c.in-Some.others.now} {form = c.in-Some.form.now} {place = c.args.place} (c.args.place - 1) (λ form. field_of form c.value_in.result) (omega arith) (let cases = c.in-Some.ensures.cases in cc) c.value_in.ensures.kind
