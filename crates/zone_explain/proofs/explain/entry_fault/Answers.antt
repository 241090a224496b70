use Rattle.zone_explain.proofs.EntryRows.{any_place, found_at, stopped_at}
use Rattle.zone_explain.proofs.explain.entry_fault.Goals as goal

pub returns-in_default-clause-entry : goal.returns-in_default-clause-entry
returns-in_default-clause-entry c is = stopped_at _ _ _ _ _ _ (rw c.in_default.is at is)

pub returns-in-Some-rule_reason-clause-entry : goal.returns-in-Some-rule_reason-clause-entry
returns-in-Some-rule_reason-clause-entry c is = found_at _ _ _ _ _ _ _ (rw c.in-Some.is at is) c.at_start.ensures

pub returns-clause-entry : goal.returns-clause-entry
returns-clause-entry c = any_place _ c.args.text.now c.args.fault c.fault.result c.in_default-rule_reason.ensures
