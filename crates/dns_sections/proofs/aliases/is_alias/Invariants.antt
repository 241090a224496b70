use Rattle.std.proofs.Common.{◌≡◌, false}
use Rattle.std.specs.Iterator.{size}
use Rattle.dns_name.specs.ParsedName.{labels_of}
use Rattle.dns_sections.specs.Cursor.{items_left}
use Rattle.dns_sections.specs.Seen.{asked_at, only_in}
use Rattle.dns_sections.proofs.AliasSteps.{FindsOn}
use Rattle.dns_sections.proofs.aliases.is_alias.Given as goal

abbrev pub invariant-loop-alias : goal.invariant-loop-alias
invariant-loop-alias l = record {
  only : only_in l.aliases ≡ false;
  finds : FindsOn (labels_of l.name) (asked_at l.aliases).cursor (asked_at l.initial.aliases).cursor l.found;
}

abbrev pub decreases-loop-alias : goal.decreases-loop-alias
decreases-loop-alias l = size (items_left (asked_at l.aliases).cursor)
