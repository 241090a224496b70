use Rattle.std.proofs.Common.{◌∙◌}
use Rattle.std.proofs.lemmas.Result.{IfOk-weaker}
use Rattle.zone_canonical.proofs.FoundChanges.{changes_have, entry_changes}
use Rattle.zone_canonical.proofs.MergeSteps.{found}
use Rattle.zone_canonical.proofs.merge.changes.Goals as goal

pub returns-clause-changes : goal.returns-clause-changes
returns-clause-changes c =
    IfOk-weaker c.merge.result _ _
    (λ changes is. entry_changes c.apex_of-apex.result c.args.old.now c.args.new.now c.in_ok-old_entries.old_entries.items
    c.in_ok-new_entries.new_entries.items changes c.in_ok-old_entries.ensures c.in_ok-new_entries.ensures
    (is ∙ (λ i. found (c.as_slice.ensures.value i) (c.as_slice-2.ensures.value i))))
    c.merge.ensures

pub returns-clause-lawful : goal.returns-clause-lawful
returns-clause-lawful c =
    IfOk-weaker c.merge.result _ _
    (λ changes is. changes_have c.args.old.now c.args.new.now changes c.requires.old c.requires.new
    (entry_changes c.apex_of-apex.result c.args.old.now c.args.new.now c.in_ok-old_entries.old_entries.items
    c.in_ok-new_entries.new_entries.items changes c.in_ok-old_entries.ensures c.in_ok-new_entries.ensures
    (is ∙ (λ i. found (c.as_slice.ensures.value i) (c.as_slice-2.ensures.value i)))))
    c.merge.ensures
