use Rattle.std.proofs.Common.{◌≡◌, ◌∷◌, refl, rules, Err}
use Rattle.std.proofs.lemmas.Result.{err_from_is_err_and}
use Rattle.dns_octets.proofs.Grows.{GrowsTo-same}
use Rattle.dns_octets.specs.declared.error.AppendError.TheVariants.{ShortBuf}
use Rattle.dns_name.proofs.Growth.{GrowsTo-trans}
use Rattle.dns_rdata_more.proofs.Composed.{both_written, first_past, others_past}
use Rattle.dns_rdata_more.proofs.Places.{left_stand, left_well}
use Rattle.dns_rdata_more.proofs.canonical.+compose_fields.Goals as goal

pub returns-in_default-clause-grows : goal.returns-in_default-clause-grows
returns-in_default-clause-grows g t c = GrowsTo-same _ _ _ _ refl refl

pub returns-in_err-compose_value-in-Ok-clause-short : goal.returns-in_err-compose_value-in-Ok-clause-short
returns-in_err-compose_value-in-Ok-clause-short g t c = λ is.
    let why : c.compose_value.result ≡ Err ShortBuf =
    let p = err_from_is_err_and c.from_residual.result c.from_residual.ensures.1 in
    let was = c.in_err-compose_value-in-Ok.was in (cc) in
    first_past {forms = c.args.forms.now} {others = c.in-Some.others.now} {form = c.in-Some.form.now} (let cases = c.in-Some.ensures.cases in cc) c.requires.well c.in-Ok.ensures.ok c.requires.row _ _
    (c.compose_value.ensures.short why)

pub compose_fields-requires : goal.compose_fields-requires
compose_fields-requires g t c = λ κs at.
    let is : c.args.forms.now ≡ c.in-Some.form.now ∷ c.in-Some.others.now = (let cases = c.in-Some.ensures.cases in cc) in
    (search rules, (at, (left_well is c.requires.well, left_stand is c.requires.well c.in-Ok.ensures.ok c.requires.row)))

pub returns-clause-ok : goal.returns-clause-ok
returns-clause-ok g t c =
    both_written {forms = c.args.forms.now} {others = c.in-Some.others.now} {form = c.in-Some.form.now} (let cases = c.in-Some.ensures.cases in cc) c.requires.well c.in-Ok.ensures.ok c.requires.row _ _ _ c.compose_fields.result
    c.in_ok-compose_value-in-Ok.ensures.ok c.compose_fields.ensures.ok

pub returns-clause-grows : goal.returns-clause-grows
returns-clause-grows g t c = GrowsTo-trans c.compose_value.ensures.grows c.compose_fields.ensures.grows

pub returns-clause-short : goal.returns-clause-short
returns-clause-short g t c = λ is.
    others_past {forms = c.args.forms.now} {others = c.in-Some.others.now} {form = c.in-Some.form.now} (let cases = c.in-Some.ensures.cases in cc) c.requires.well c.in-Ok.ensures.ok c.requires.row _ _ _ _ c.compose_value.ensures.same_bound
    c.in_ok-compose_value-in-Ok.ensures.ok (c.compose_fields.ensures.short is)
