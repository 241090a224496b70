use Rattle.std.proofs.Common.{◌≡◌, ◌+◌, ◌-◌, ◌≤◌, List, [], ◌++◌, drop, length}
use Rattle.zone_canonical.specs.ChangeWriter.{HoldsChanges}
use Rattle.zone_canonical.specs.declared.change_list.Change.{Change}
use Rattle.zone_canonical.proofs.MergeSteps.{found}
use Rattle.zone_canonical.proofs.merge.merge.Given as goal

-- the changes so far and those between what is left are all
abbrev pub invariant-loop-old_index : goal.invariant-loop-old_index
invariant-loop-old_index l = record {
  within : l.new_index ≤ length l.new;
  changes : List Change;
  held : HoldsChanges l.writer changes;
  whole : changes ++ found (drop l.old_index l.old) (drop l.new_index l.new) ≡ found l.old l.new;
}

abbrev pub decreases-loop-old_index : goal.decreases-loop-old_index
decreases-loop-old_index l = (length l.old - l.old_index) + (length l.new - l.new_index)

abbrev pub invariant-loop-added : goal.invariant-loop-added
invariant-loop-added l = record {
  changes : List Change;
  held : HoldsChanges l.writer changes;
  whole : changes ++ found [] (drop l.added-index l.added-items) ≡ found l.old l.new;
}
