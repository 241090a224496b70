use Rattle.zone_tool.proofs.differences.changes_between.Goals as goal

pub returns-clause-changes : goal.returns-clause-changes
returns-clause-changes c =
    rw (← c.records_of.ensures.records, ← c.records_of-2.ensures.records, ← c.in_ok-old_records.ensures.selected, ← c.in_ok-new_records.ensures.selected)
    c.changes.ensures.changes
