use Rattle.std.proofs.Common.{◌≡◌, ◌-◌, List}
use Rattle.dns_name.specs.ParsedName.{labels_of}
use Rattle.dns_sections.specs.Aliases.{Alias, HasAliases, resolved}
use Rattle.dns_sections.specs.Seen.{records_at}
use Rattle.dns_sections.proofs.aliases.resolved.Given as goal

abbrev pub invariant-loop : goal.invariant-loop
invariant-loop l = (aliases : List Alias) → HasAliases (records_at l.records).cursor aliases
    → resolved aliases 20 (labels_of l.initial.name) ≡ resolved aliases (20 - l.counter) (labels_of l.name)
