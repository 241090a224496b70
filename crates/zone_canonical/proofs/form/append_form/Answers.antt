use Rattle.std.proofs.Common.{◌-◌, ℕ, List, length, sym, ap, ◌∙◌, subst, rules}
use Rattle.std.proofs.lemmas.Result.{on_ok_weaker}
use Rattle.zone_canonical.specs.DataForm.{EndsInNames, data_form}
use Rattle.zone_canonical.proofs.RecordForms.{form_appended, names_appended, place_within, plain_appended, read_formed}
use Rattle.zone_canonical.proofs.form.append_form.Goals as goal

pub returns-then-has_no_names : goal.returns-then-has_no_names
returns-then-has_no_names c =
    let r = c.args.record.now in
    on_ok_weaker c.append_lowered.result
    (λ appended. plain_appended r c.owner-owner.result c.args.octets.now.items c.as_octets-whole.result.now c.append_lowered.new.octets.items
    c.len.result c.requires c.as_octets-whole.ensures.octets c.owner-owner.ensures.owner c.len.ensures.octets
    (ap (λ n. data_form n r.rdata) (sym c.rtype.ensures) ∙ c.has_no_names.ensures (search rules) r.rdata) appended)
    c.append_lowered.ensures

pub returns : goal.returns
returns c =
    on_ok_weaker c.append_canonical_data.result
    (λ appended. form_appended c.args.record.now c.owner-owner.result c.args.octets.now.items c.as_octets-whole.result.now
    c.data-data.result.now c.append_lowered-2.new.octets.items c.append_canonical_data.new.target.items
    c.len-2.result c.requires c.as_octets-whole.ensures.octets c.owner-owner.ensures.owner c.len-2.ensures.octets
    c.data-data.ensures c.in_ok-append_lowered-2.ensures appended)
    (c.append_canonical_data.ensures _
    (read_formed c.args.record.now c.rtype-3.result c.data-data.result.now c.rtype-3.ensures c.data-data.ensures c.requires))

pub overflow_sub-data : goal.overflow_sub-data
overflow_sub-data c =
    place_within c.args.record.now c.rtype-2.result c.in-Some.place c.data-data.result.now c.rtype-2.ensures c.data-data.ensures c.requires c.in-Some.ensures

pub returns-in-Some : goal.returns-in-Some
returns-in-Some c =
    let place = c.in-Some.place in
    names_appended c.args.record.now c.owner-owner.result c.args.octets.now.items c.as_octets-whole.result.now
    c.append_lowered-in-Some.new.octets.items c.lower_end.new.octets.items c.len-in-Some.result place (length c.data-data.result.now - place)
    c.requires c.as_octets-whole.ensures.octets c.owner-owner.ensures.owner c.len-in-Some.ensures.octets c.in_ok-append_lowered.ensures
    (subst (λ n. EndsInNames n place) c.rtype-2.ensures c.in-Some.ensures) (ap (λ (l : List ℕ). length l - place) c.data-data.ensures) c.lower_end.ensures
