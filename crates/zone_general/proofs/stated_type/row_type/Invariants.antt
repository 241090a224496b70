use Rattle.std.proofs.Common.{drop, take}
use Rattle.std.specs.List.{AllByRecursion}
use Rattle.zone_general.specs.LongerRow.{IsNoTypeWord}
use Rattle.zone_general.specs.Seen.{tokens_in}
use Rattle.zone_general.proofs.stated_type.row_type.Given as goal

-- the tokens so far, from the one behind the owner on, are words for no type
abbrev pub invariant-loop-index : goal.invariant-loop-index
invariant-loop-index l = AllByRecursion IsNoTypeWord (drop l.initial.index (take l.index (tokens_in l.row)))
