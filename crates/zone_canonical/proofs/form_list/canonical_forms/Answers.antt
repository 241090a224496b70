use Rattle.std.proofs.Common.{map, sym, subst, ap, ◌∙◌}
use Rattle.std.proofs.lemmas.Result.{IfOk-weaker}
use Rattle.zone_canonical.specs.Canonical.{AreFormsOf}
use Rattle.zone_canonical.specs.Keyed.{form_in}
use Rattle.zone_canonical.proofs.FoundChanges.{forms_have}
use Rattle.zone_canonical.proofs.SortedKeys.{entry_forms}
use Rattle.zone_canonical.proofs.form_list.canonical_forms.Goals as goal

pub returns-clause-forms : goal.returns-clause-forms
returns-clause-forms c =
    IfOk-weaker c.list_of.result _ _
    (λ forms are. subst (AreFormsOf c.args.records.now) (sym (are ∙ ap (map form_in) c.as_slice.ensures.value))
    (entry_forms c.apex_of.result c.args.records.now c.in_ok-entries.entries.items c.in_ok-entries.ensures))
    c.list_of.ensures

pub returns-clause-lawful : goal.returns-clause-lawful
returns-clause-lawful c =
    IfOk-weaker c.list_of.result _ _
    (λ forms are. forms_have c.args.records.now forms c.requires
    (subst (AreFormsOf c.args.records.now) (sym (are ∙ ap (map form_in) c.as_slice.ensures.value))
    (entry_forms c.apex_of.result c.args.records.now c.in_ok-entries.entries.items c.in_ok-entries.ensures)))
    c.list_of.ensures
