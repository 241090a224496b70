use Rattle.std.proofs.Common.{◌≤◌}
use Rattle.std.specs.Prelude.{Option, Result}
use Rattle.std.specs.Iterator.{size}
use Rattle.dns_octets.specs.declared.error.ParseError.{ParseError}
use Rattle.dns_sections.specs.Given.{GivesAll, Sectioned}
use Rattle.dns_sections.specs.Sections.{SectionCursor, all_left}
use Rattle.dns_sections.specs.Seen.{all_at}
use Rattle.dns_sections.proofs.message_iter.MessageIterIterator.next.Given as goal

abbrev pub invariant-loop-self : goal.invariant-loop-self
invariant-loop-self l = record {
  gives : (result : Option (Result Sectioned ParseError)) (new : Option SectionCursor) → GivesAll (all_at l.self) result new
      → GivesAll (all_at l.initial.self) result new;
  less : size (all_left (all_at l.self)) ≤ size (all_left (all_at l.initial.self));
}

abbrev pub decreases-loop-self : goal.decreases-loop-self
decreases-loop-self l = size (all_left (all_at l.self))
